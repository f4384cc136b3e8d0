-- Laws that impls cite; what is defined here serves their proofs alone.
-- What joined writes have at each time, and the laws of their join.
use Rattle.std.specs.Prelude.{◌≡◌, ℕ, suc, Bool, true, false, cond, not, nat_lt, ◌||◌, List, [], ◌∷◌, Option, None, refl}
use mathlib.Core.Bool.{Bool-set}
use mathlib.Core.HLevel.{is_prop→PathP}
use Rattle.std.proofs.Common.{ap, sym, ◌∙◌, arith, ◌<◌, ◌≤◌}
use Rattle.std.specs.declared.cmp.Ordering.TheVariants.{Less}
use Rattle.std.specs.Ordering.{nat_cmp, is_lt}
use Rattle.std.specs.Cmp.{nat_cmp_total, nat_cmp_is}
use Rattle.std.proofs.lemmas.Cmp.{ranked, by_ranked}
use Rattle.std.proofs.lemmas.Bool.{lt-ltb, le-ltb, ltb-true, ltb-false}
use Rattle.crdt_core.specs.declared.max.Max.{Max}
use Rattle.crdt_core.specs.IdentityLaws.{nat_identical}
use Rattle.crdt_core.specs.Laws.{JoinLaws}
use Rattle.crdt_core.specs.Lex.{by_order, larger}
use Rattle.crdt_core.specs.Order.{option_join}
use Rattle.crdt_core.specs.OrderLaws.{option_laws}
use Rattle.crdt_core.specs.Max.{max_join}
use Rattle.crdt_core.specs.TypeLaws.{max_laws}
use Rattle.crdt_core.specs.Entries.{entries_from, value_at}
use Rattle.crdt_core.specs.EntryLaws.{and_parts, and_both}
use Rattle.crdt_core.specs.Map.{map_entries, map_get, map_join}
use Rattle.crdt_core.specs.MapLaws.{map_from-entries, map_get-from, map_get-join, map_get-decides}
use Rattle.k2v_rows.specs.declared.writes.Writes.{Writes}
use Rattle.k2v_rows.specs.Later.{are_later}
use Rattle.k2v_rows.specs.Value.{value_cmp}
use Rattle.k2v_rows.specs.ValueLaws.{value_total, value_identical}
use Rattle.k2v_rows.specs.Values.{ValueMap, later_values}
use Rattle.k2v_rows.specs.Writes.{joined_discard, joined_values, writes_of, writes_join}

-- ---- times

-- t is at most d
abbrev pub is_past : ℕ → ℕ → Bool
is_past d t = is_lt (nat_cmp t (suc d))

past_is : (d t : ℕ) → is_past d t ≡ nat_lt t (suc d)
past_is d t =
    by_ranked _ _ _ (nat_cmp t (suc d)) (ranked t (suc d) (nat_cmp t (suc d)) refl)
    (λ e l. ap is_lt e ∙ sym (lt-ltb t (suc d) l))
    (λ e l. ap is_lt e ∙ sym (le-ltb t (suc d) (omega (arith, l))))
    (λ e l. ap is_lt e ∙ sym (le-ltb t (suc d) (omega (arith, l))))

past_le : (d t : ℕ) → is_past d t ≡ true → t ≤ d
past_le d t h = let lt : t < suc d = ltb-true t (suc d) (sym (past_is d t) ∙ h) in omega (arith, lt)

le_past : (d t : ℕ) → t ≤ d → is_past d t ≡ true
le_past d t le = past_is d t ∙ lt-ltb t (suc d) (omega (arith, le))

not_past : (d t : ℕ) → is_past d t ≡ false → d < t
not_past d t h = let le : suc d ≤ t = ltb-false t (suc d) (sym (past_is d t) ∙ h) in omega (arith, le)

or_second : (x y : Bool) → (x ≡ true → y ≡ true) → y ≡ (x || y)
or_second true y h = h refl
or_second false y h = refl

or_first : (x y : Bool) → (y ≡ true → x ≡ true) → x ≡ (x || y)
or_first true y h = refl
or_first false true h = h refl
or_first false false h = refl

past_up : (a b t : ℕ) → a ≤ b → is_past a t ≡ true → is_past b t ≡ true
past_up a b t le h = let before = past_le a t h in le_past b t (omega (arith, le, before))

-- t is at most the greater of two where it is at most either
pub past_joined : (a b t : ℕ) → is_past (larger nat_cmp a b) t ≡ (is_past a t || is_past b t)
past_joined a b t =
    by_ranked _ _ _ (nat_cmp a b) (ranked a b (nat_cmp a b) refl)
    (λ e l. ap (λ r. is_past (by_order r b a a) t) e ∙ or_second (is_past a t) (is_past b t) (past_up a b t (omega (arith, l))))
    (λ e l. ap (λ r. is_past (by_order r b a a) t) e ∙ or_first (is_past a t) (is_past b t) (past_up b a t (omega (arith, l))))
    (λ e l. ap (λ r. is_past (by_order r b a a) t) e ∙ or_first (is_past a t) (is_past b t) (past_up b a t (omega (arith, l))))

-- ---- values

module _ {V : Type 0} where
  after_by : (d : ℕ) (e : ℕ × V) (es : List (ℕ × V)) (b : Bool) → not (is_past d e.0) ≡ b → are_later d es ≡ true → are_later d (cond b (e ∷ es) es) ≡ true
  after_by d e es true p h = and_both _ _ (lt-ltb d e.0 (not_past d e.0 (not_true (is_past d e.0) p))) h where
    not_true : (b : Bool) → not b ≡ true → b ≡ false
    not_true true q = cc
    not_true false q = refl
  after_by d e es false p h = h

  -- the values after d are after d
  pub entries_after : (d : ℕ) (es : List (ℕ × V)) → are_later d (entries_from nat_cmp (suc d) es) ≡ true
  entries_after d [] = refl
  entries_after d (e ∷ es) = after_by d e (entries_from nat_cmp (suc d) es) (not (is_past d e.0)) refl (entries_after d es)

  -- values after d have none up to d
  pub none_past : (d t : ℕ) (es : List (ℕ × V)) → are_later d es ≡ true → is_past d t ≡ true → value_at nat_cmp t es ≡ None
  none_past d t [] h p = refl
  none_past d t (e ∷ es) h p =
      let above : d < e.0 = ltb-true d e.0 (and_parts _ _ h).0 in
      let before = past_le d t p in
      let less : nat_cmp t e.0 ≡ Less = sym (nat_cmp_is t e.0 Less (omega (arith, above, before))) in
      rw less refl

  module _ {j : V → V → V} (laws : JoinLaws j) where
    comm_at : (p q : Bool) (x y : Option V) → cond (p || q) None (option_join j x y) ≡ cond (q || p) None (option_join j y x)
    comm_at true true x y = refl
    comm_at true false x y = refl
    comm_at false true x y = refl
    comm_at false false x y = (option_laws laws).commutative x y

    assoc_at : (p q r : Bool) (x y z : Option V) → cond ((p || q) || r) None (option_join j (cond (p || q) None (option_join j x y)) z) ≡ cond (p || (q || r)) None (option_join j x (cond (q || r) None (option_join j y z)))
    assoc_at true q r x y z = refl
    assoc_at false true r x y z = refl
    assoc_at false false true x y z = refl
    assoc_at false false false x y z = (option_laws laws).associative x y z

    idem_at : (p : Bool) (x : Option V) → (p ≡ true → x ≡ None) → cond (p || p) None (option_join j x x) ≡ x
    idem_at true x h = sym (h refl)
    idem_at false x h = (option_laws laws).idempotent x

-- ---- the join

pub values_after : (d : ℕ) (m : ValueMap) → are_later d (map_entries (later_values d m)) ≡ true
values_after d m = ap (are_later d) (map_from-entries nat_cmp_total (suc d) m) ∙ entries_after d (map_entries m)

-- writes with the same discard time and values are one
pub same_writes : (a b : Writes) → a.discard ≡ b.discard → a.values ≡ b.values → a ≡ b
same_writes a b d v = λ i. record {
  discard = d i;
  values = v i;
  kept = is_prop→PathP (λ k. are_later (d k).0 (map_entries (v k)) ≡ true) (λ k. Bool-set (are_later (d k).0 (map_entries (v k))) true) a.kept b.kept i;
}

pub of_discard : (d : Max ℕ) (m : ValueMap) (s : Bool) (h : are_later d.0 (map_entries m) ≡ s) (other : Writes) → are_later d.0 (map_entries m) ≡ true → (writes_of d m s h other).discard ≡ d
of_discard d m true h other t = refl
of_discard d m false h other t = let no : true ≡ false = sym t ∙ h in cc

pub of_values : (d : Max ℕ) (m : ValueMap) (s : Bool) (h : are_later d.0 (map_entries m) ≡ s) (other : Writes) → are_later d.0 (map_entries m) ≡ true → (writes_of d m s h other).values ≡ m
of_values d m true h other t = refl
of_values d m false h other t = let no : true ≡ false = sym t ∙ h in cc

module _ (a b : Writes) where
  pub joined_after : are_later (joined_discard a b).0 (map_entries (joined_values a b)) ≡ true
  joined_after = values_after (joined_discard a b).0 (map_join (max_join value_cmp) a.values b.values)

  pub join-discard : (writes_join a b).discard ≡ joined_discard a b
  join-discard = of_discard (joined_discard a b) (joined_values a b) _ refl a joined_after

  pub join-values : (writes_join a b).values ≡ joined_values a b
  join-values = of_values (joined_discard a b) (joined_values a b) _ refl a joined_after

  past_either : (t : ℕ) → is_past (writes_join a b).discard.0 t ≡ (is_past a.discard.0 t || is_past b.discard.0 t)
  past_either t = ap (λ d. is_past d.0 t) join-discard ∙ past_joined a.discard.0 b.discard.0 t

  -- the join has at each time the greater of both values, unless a discard time covers it
  pub join-get : (t : ℕ) → map_get (writes_join a b).values t ≡ cond (is_past a.discard.0 t || is_past b.discard.0 t) None (option_join (max_join value_cmp) (map_get a.values t) (map_get b.values t))
  join-get t =
      ap (λ m. map_get m t) join-values
      ∙ (map_get-from nat_cmp_total (map_join (max_join value_cmp) a.values b.values) (suc (joined_discard a b).0) t
      ∙ (λ i. cond (past_joined a.discard.0 b.discard.0 t i) None (map_get-join nat_cmp_total (max_join value_cmp) a.values b.values t i)))

ext : (a b : ValueMap) → ((t : ℕ) → map_get a t ≡ map_get b t) → a ≡ b
ext = map_get-decides nat_cmp_total nat_identical

discard_laws : JoinLaws (max_join nat_cmp)
discard_laws = max_laws nat_cmp_total nat_identical

value_laws : JoinLaws (max_join value_cmp)
value_laws = max_laws value_total value_identical

pub writes_laws : JoinLaws writes_join
writes_laws = record {
  commutative = λ a b. same_writes _ _
      (join-discard a b ∙ (discard_laws.commutative a.discard b.discard ∙ sym (join-discard b a)))
      (ext _ _ (λ t. join-get a b t ∙ (comm_at value_laws (is_past a.discard.0 t) (is_past b.discard.0 t) (map_get a.values t) (map_get b.values t) ∙ sym (join-get b a t))));
  associative = λ a b c. same_writes _ _
      (join-discard (writes_join a b) c
      ∙ (ap (λ d. max_join nat_cmp d c.discard) (join-discard a b)
      ∙ (discard_laws.associative a.discard b.discard c.discard
      ∙ (ap (max_join nat_cmp a.discard) (sym (join-discard b c)) ∙ sym (join-discard a (writes_join b c))))))
      (ext _ _ (λ t.
      join-get (writes_join a b) c t
      ∙ ((λ i. cond (past_either a b t i || is_past c.discard.0 t) None (option_join (max_join value_cmp) (join-get a b t i) (map_get c.values t)))
      ∙ (assoc_at value_laws (is_past a.discard.0 t) (is_past b.discard.0 t) (is_past c.discard.0 t) (map_get a.values t) (map_get b.values t) (map_get c.values t)
      ∙ (sym (λ i. cond (is_past a.discard.0 t || past_either b c t i) None (option_join (max_join value_cmp) (map_get a.values t) (join-get b c t i)))
      ∙ sym (join-get a (writes_join b c) t))))));
  idempotent = λ a. same_writes _ _
      (join-discard a a ∙ discard_laws.idempotent a.discard)
      (ext _ _ (λ t. join-get a a t ∙ idem_at value_laws (is_past a.discard.0 t) (map_get a.values t) (none_past a.discard.0 t (map_entries a.values) a.kept)));
}
