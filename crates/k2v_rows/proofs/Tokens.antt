-- Tokens and discards, as loops go over them.
use Rattle.std.proofs.Common.{◌≡◌, ℕ, zero, suc, ◌+◌, ◌<◌, true, List, [], ◌∷◌, ◌++◌, length, take, drop, get_or, refl, ap, sym, ◌∙◌}
use Rattle.std.specs.Prelude.{◌&&◌}
use Rattle.std.specs.Ordering.{nat_cmp, is_lt}
use Rattle.std.specs.Cmp.{nat_cmp_total}
use Rattle.std.specs.declared.cmp.Ordering.TheVariants.{Less}
use Rattle.std.proofs.lemmas.List.{take_more, drop_more}
use Rattle.crdt_core.specs.declared.max.Max.{Max}
use Rattle.crdt_core.specs.Entries.{is_below, is_ascending, merged}
use Rattle.crdt_core.specs.EntryLaws.{less_is, and_parts, and_both}
use Rattle.crdt_core.specs.Max.{max_join}
use Rattle.crdt_core.specs.Map.{map_entries, map_join, map_single}
use Rattle.crdt_core.specs.MapLaws.{map_join-entries, same_map}
use Rattle.k2v_rows.specs.declared.value.K2vValue.{K2vValue}
use Rattle.k2v_rows.specs.declared.writes.Writes.{Writes}
use Rattle.k2v_rows.specs.Later.{are_later}
use Rattle.k2v_rows.specs.Writes.{greatest_time}
use Rattle.k2v_rows.specs.WritesLaws.{same_writes, of_discard, of_values}
use Rattle.k2v_rows.specs.Token.{WritesMap, TimeMap, entries_join, token_entries, discarded, raised}
use Rattle.k2v_rows.specs.Row.{written}

module _ {V : Type 0} where
  first_below : (e : ℕ × V) (es : List (ℕ × V)) (x : ℕ × V) → is_ascending nat_cmp (e ∷ (es ++ x ∷ [])) ≡ true → nat_cmp e.0 x.0 ≡ Less
  first_below e [] x h = less_is (nat_cmp e.0 x.0) (and_parts (is_below nat_cmp e.0 (x ∷ [])) (is_ascending nat_cmp (x ∷ [])) h).0
  first_below e (f ∷ es) x h =
      let parts = and_parts (is_below nat_cmp e.0 (f ∷ (es ++ x ∷ []))) (is_ascending nat_cmp (f ∷ (es ++ x ∷ []))) h in
      nat_cmp_total.trans e.0 f.0 x.0 (less_is (nat_cmp e.0 f.0) parts.0) (first_below f es x parts.1)

  -- an entry above all others goes to the end
  merged_last : (j : V → V → V) (es : List (ℕ × V)) (x : ℕ × V) → is_ascending nat_cmp (es ++ x ∷ []) ≡ true → merged nat_cmp j es (x ∷ []) ≡ es ++ x ∷ []
  merged_last j [] x h = refl
  merged_last j (e ∷ es) x h =
      let rest = (and_parts (is_below nat_cmp e.0 (es ++ x ∷ [])) (is_ascending nat_cmp (es ++ x ∷ [])) h).1 in
      rw (first_below e es x h) (ap (λ (fs : List (ℕ × V)). e ∷ fs) (merged_last j es x rest))

  below_front : (k n : ℕ) (es : List (ℕ × V)) → is_below nat_cmp k es ≡ true → is_below nat_cmp k (take n es) ≡ true
  below_front k zero es h = refl
  below_front k (suc n) [] h = refl
  below_front k (suc n) (e ∷ es) h = h

  ascending_front : (n : ℕ) (es : List (ℕ × V)) → is_ascending nat_cmp es ≡ true → is_ascending nat_cmp (take n es) ≡ true
  ascending_front zero es h = refl
  ascending_front (suc n) [] h = refl
  ascending_front (suc n) (e ∷ es) h =
      let parts = and_parts (is_below nat_cmp e.0 es) (is_ascending nat_cmp es) h in
      and_both _ _ (below_front e.0 n es parts.0) (ascending_front n es parts.1)

-- ---- tokens

-- the time of one node
abbrev token_entry : ℕ × Writes → ℕ × Max ℕ
token_entry e = (e.0, record { 0 = greatest_time e.1 })

token_ascends : (es : List (ℕ × Writes)) → is_ascending nat_cmp (token_entries es) ≡ is_ascending nat_cmp es
token_ascends [] = refl
token_ascends (e ∷ []) = refl
token_ascends (e ∷ f ∷ es) = ap (λ b. is_lt (nat_cmp e.0 f.0) && b) (token_ascends (f ∷ es))

token_append : (es : List (ℕ × Writes)) (x : ℕ × Writes) → token_entries (es ++ x ∷ []) ≡ token_entries es ++ token_entry x ∷ []
token_append [] x = refl
token_append (e ∷ es) x = ap (λ ts. token_entry e ∷ ts) (token_append es x)

-- the token of the first nodes, and the next one joined in
pub token_more : (m n : TimeMap) (es : List (ℕ × Writes)) (i : ℕ) (x : ℕ × Writes) (t : Max ℕ) → is_ascending nat_cmp es ≡ true → i < length es → x ≡ get_or es i x → t ≡ record { 0 = greatest_time x.1 } → map_entries m ≡ token_entries (take i es) → n ≡ map_join (max_join nat_cmp) m (map_single x.0 t) → map_entries n ≡ token_entries (take (i + 1) es)
token_more m n es i x t ascends lt is time before joined =
    let more : take (i + 1) es ≡ take i es ++ x ∷ [] = take_more es i x lt ∙ ap (λ (y : ℕ × Writes). take i es ++ y ∷ []) (sym is) in
    let tokens : token_entries (take (i + 1) es) ≡ token_entries (take i es) ++ token_entry x ∷ [] = ap token_entries more ∙ token_append (take i es) x in
    let front : is_ascending nat_cmp (token_entries (take i es) ++ token_entry x ∷ []) ≡ true =
    ap (is_ascending nat_cmp) (sym tokens) ∙ (token_ascends (take (i + 1) es) ∙ ascending_front (i + 1) es ascends) in
    ap map_entries joined
    ∙ (map_join-entries nat_cmp_total (max_join nat_cmp) m (map_single x.0 t)
    ∙ (ap (λ (u : Max ℕ). merged nat_cmp (max_join nat_cmp) (map_entries m) ((x.0, u) ∷ [])) time
    ∙ (ap (λ (fs : List (ℕ × Max ℕ)). merged nat_cmp (max_join nat_cmp) fs (token_entry x ∷ [])) before
    ∙ (merged_last (max_join nat_cmp) (token_entries (take i es)) (token_entry x) front ∙ sym tokens))))

-- ---- discards

-- writes with a discard time alone
pub discarded_is : (w : Writes) (t : Max ℕ) → w.discard.0 ≡ t.0 → map_entries w.values ≡ [] → w ≡ discarded t
discarded_is w t d v = same_writes w (discarded t) (λ i. record { 0 = d i }) (same_map _ _ v)

-- one discard time more is raised
pub raised_more : (m n first : WritesMap) (ts : List (ℕ × Max ℕ)) (i : ℕ) (x : ℕ × Max ℕ) → i < length ts → x ≡ get_or ts i x → n ≡ entries_join m (map_single x.0 (discarded x.1)) → raised m (drop i ts) ≡ raised first ts → raised n (drop (i + 1) ts) ≡ raised first ts
raised_more m n first ts i x lt is joined so_far =
    let next : drop i ts ≡ x ∷ drop (i + 1) ts = drop_more ts i x lt ∙ ap (λ (y : ℕ × Max ℕ). y ∷ drop (i + 1) ts) (sym is) in
    ap (λ (k : WritesMap). raised k (drop (i + 1) ts)) joined ∙ (ap (raised m) (sym next) ∙ so_far)

pub raised_more_at : (m n first : WritesMap) (ts : List (ℕ × Max ℕ)) (i : ℕ) (d : ℕ × Max ℕ) → i < length ts → n ≡ entries_join m (map_single (get_or ts i d).0 (discarded (get_or ts i d).1)) → raised m (drop i ts) ≡ raised first ts → raised n (drop (i + 1) ts) ≡ raised first ts
raised_more_at m n first ts i d lt joined so_far =
    ap (λ (k : WritesMap). raised k (drop (i + 1) ts)) joined ∙ (ap (raised m) (sym (drop_more ts i d lt)) ∙ so_far)

-- ---- one write

-- writes with one value alone
pub written_is : (w : Writes) (time : ℕ) (value : K2vValue) → w.discard.0 ≡ 0 → map_entries w.values ≡ (time, record { 0 = value }) ∷ [] → w ≡ written time value
written_is w time value d v =
    let later : are_later {V = Max K2vValue} 0 ((time, record { 0 = value }) ∷ []) ≡ true = (λ i. are_later (sym d i) (sym v i)) ∙ w.kept in
    same_writes w (written time value)
    ((λ i. record { 0 = d i }) ∙ sym (of_discard (record { 0 = 0 }) (map_single time (record { 0 = value })) _ refl (discarded (record { 0 = 0 })) later))
    (same_map _ _ v ∙ sym (of_values (record { 0 = 0 }) (map_single time (record { 0 = value })) _ refl (discarded (record { 0 = 0 })) later))
