-- Rows of the object table beside their keys: what is found among them, and what merging them keeps.
use Rattle.std.specs.Prelude.{◌≡◌, ℕ, Bool, true, false, cond, List, [], ◌∷◌, None, IsTrue, All, map, filter, refl}
use Rattle.std.proofs.Common.{ap, sym, ◌∙◌}
use Rattle.std.proofs.lemmas.List.Elements.{All-cons, All-head, All-tail}
use Rattle.std.proofs.lemmas.Cmp.{nat_list_cmp_total}
use Rattle.std.specs.declared.cmp.Ordering.{Ordering}
use Rattle.std.specs.declared.cmp.Ordering.TheVariants.{Less, Equal, Greater}
use Rattle.std.specs.Ordering.{is_lt}
use Rattle.crdt_core.specs.IdentityLaws.{nat_identical, slice_identical}
use Rattle.crdt_core.specs.Entries.{is_below, is_ascending, value_at, merged}
use Rattle.crdt_core.specs.EntryLaws.{less_is, and_parts, and_both}
use Rattle.table_schema.specs.Words.{Words}
use Rattle.table_schema.specs.Laws.{Same, Laws}
use Rattle.table_model.specs.Rows.{place_cmp, place, find_row}
use Rattle.table_model.proofs.RowLaws.{Above, Ascends}
use Rattle.quorum_model.specs.Window.{key_cmp, keyed}

-- a row of the object table beside its key
pub record Fits {R : Type 0} (s : Words R) (e : List ℕ × R) : Type 0 where
  pub proper : IsTrue (s.is_proper e.1)
  pub table : s.table e.1 ≡ 1
  pub key : s.key e.1 ≡ e.0

module _ {R : Type 0} (s : Words R) where
  place_of : (e : List ℕ × R) → Fits s e → place s e.1 ≡ (1, e.0)
  place_of e fit = λ i. (fit.table i, fit.key i)

  pub rows_back : (xs : List R) → map (λ e. e.1) (keyed s xs) ≡ xs
  rows_back [] = refl
  rows_back (x ∷ xs) = ap (λ ys. x ∷ ys) (rows_back xs)

  pub entries_back : (es : List (List ℕ × R)) → All (Fits s) es → keyed s (map (λ e. e.1) es) ≡ es
  entries_back [] fits = refl
  entries_back (e ∷ es) fits = λ i. ((All-head (Fits s) e es fits).key i, e.1) ∷ entries_back es (All-tail (Fits s) e es fits) i

  -- ---- order

  below_key : (x : R) (xs : List R) → s.table x ≡ 1 → All (λ r. s.table r ≡ 1) xs → Above s (place s x) xs → is_below key_cmp (s.key x) (keyed s xs) ≡ true
  below_key x [] t ts a = refl
  below_key x (y ∷ ys) t ts a =
      let u : s.table y ≡ 1 = All-head (λ r. s.table r ≡ 1) y ys ts in
      let here : place_cmp (1, s.key x) (1, s.key y) ≡ Less = (λ i. place_cmp (sym t i, s.key x) (sym u i, s.key y)) ∙ a.0 in
      ap is_lt here

  -- rows of one table that ascend by place ascend by key
  pub keys_ascend : (xs : List R) → All (λ r. s.table r ≡ 1) xs → Ascends s xs → is_ascending key_cmp (keyed s xs) ≡ true
  keys_ascend [] ts a = refl
  keys_ascend (x ∷ xs) ts a =
      let t = All-head (λ r. s.table r ≡ 1) x xs ts in
      let others = All-tail (λ r. s.table r ≡ 1) x xs ts in
      and_both _ _ (below_key x xs t others a.0) (keys_ascend xs others a.1)

  -- ---- what is found

  none_below : (key : List ℕ) (e : List ℕ × R) (es : List (List ℕ × R)) → key_cmp key e.0 ≡ Less → is_below key_cmp e.0 es ≡ true → value_at key_cmp key es ≡ None
  none_below key e [] h b = refl
  none_below key e (f ∷ fs) h b = rw (nat_list_cmp_total.trans key e.0 f.0 h (less_is (key_cmp e.0 f.0) b)) refl

  found_by : (key : List ℕ) (e : List ℕ × R) (es : List (List ℕ × R)) → Fits s e → is_below key_cmp e.0 es ≡ true → find_row s 1 key (map (λ e. e.1) es) ≡ value_at key_cmp key es →
      (o : Ordering) → key_cmp key e.0 ≡ o → find_row s 1 key (map (λ e. e.1) (e ∷ es)) ≡ value_at key_cmp key (e ∷ es)
  found_by key e es fit below rest Less h =
      let here : place_cmp (1, key) (place s e.1) ≡ Less = ap (place_cmp (1, key)) (place_of e fit) ∙ h in
      rw (here, h) (rest ∙ none_below key e es h below)
  found_by key e es fit below rest Equal h =
      let here : place_cmp (1, key) (place s e.1) ≡ Equal = ap (place_cmp (1, key)) (place_of e fit) ∙ h in
      rw (here, h) refl
  found_by key e es fit below rest Greater h =
      let here : place_cmp (1, key) (place s e.1) ≡ Greater = ap (place_cmp (1, key)) (place_of e fit) ∙ h in
      rw (here, h) rest

  -- the row found at a key is the entries' value there
  pub found : (key : List ℕ) (es : List (List ℕ × R)) → All (Fits s) es → is_ascending key_cmp es ≡ true → find_row s 1 key (map (λ e. e.1) es) ≡ value_at key_cmp key es
  found key [] fits up = refl
  found key (e ∷ es) fits up =
      let parts = and_parts (is_below key_cmp e.0 es) (is_ascending key_cmp es) up in
      found_by key e es (All-head (Fits s) e es fits) parts.0 (found key es (All-tail (Fits s) e es fits) parts.1) (key_cmp key e.0) refl

-- ---- entries left out

module _ {V : Type 0} (test : List ℕ × V → Bool) where
  below_lower : (key : List ℕ) (e : List ℕ × V) (es : List (List ℕ × V)) → key_cmp key e.0 ≡ Less → is_below key_cmp e.0 es ≡ true → is_below key_cmp key es ≡ true
  below_lower key e [] h b = refl
  below_lower key e (f ∷ fs) h b = ap is_lt (nat_list_cmp_total.trans key e.0 f.0 h (less_is (key_cmp e.0 f.0) b))

  below_filter : (key : List ℕ) (es : List (List ℕ × V)) → is_below key_cmp key es ≡ true → is_ascending key_cmp es ≡ true → is_below key_cmp key (filter test es) ≡ true
  below_filter key [] b up = refl
  below_filter key (e ∷ es) b up =
      let parts = and_parts (is_below key_cmp e.0 es) (is_ascending key_cmp es) up in
      elim (test e) as (λ t. is_below key_cmp key (cond t (e ∷ filter test es) (filter test es)) ≡ true)
      [ true ↦ b | false ↦ below_filter key es (below_lower key e es (less_is (key_cmp key e.0) b) parts.0) parts.1 ]

  pub ascending_filter : (es : List (List ℕ × V)) → is_ascending key_cmp es ≡ true → is_ascending key_cmp (filter test es) ≡ true
  ascending_filter [] up = refl
  ascending_filter (e ∷ es) up =
      let parts = and_parts (is_below key_cmp e.0 es) (is_ascending key_cmp es) up in
      elim (test e) as (λ t. is_ascending key_cmp (cond t (e ∷ filter test es) (filter test es)) ≡ true)
      [ true ↦ and_both _ _ (below_filter e.0 es parts.0 parts.1) (ascending_filter es parts.1) | false ↦ ascending_filter es parts.1 ]

-- ---- entries merged

-- what both lists' entries have and two merged under one key have, all merged have
module _ {R : Type 0} (join : R → R → R) (P : List ℕ × R → Type 0) (joined : (x y : List ℕ × R) → P x → P y → key_cmp x.0 y.0 ≡ Equal → P (x.0, join x.1 y.1)) where
  has_by : (x y : List ℕ × R) (xs ys : List (List ℕ × R)) → P x → P y →
      All P (merged key_cmp join xs (y ∷ ys)) → All P (merged key_cmp join xs ys) → All P (merged key_cmp join (x ∷ xs) ys) →
      (o : Ordering) → key_cmp x.0 y.0 ≡ o → All P (merged key_cmp join (x ∷ xs) (y ∷ ys))
  has_by x y xs ys f g a b c Less e = rw e (All-cons P x (merged key_cmp join xs (y ∷ ys)) f a)
  has_by x y xs ys f g a b c Equal e = rw e (All-cons P (x.0, join x.1 y.1) (merged key_cmp join xs ys) (joined x y f g e) b)
  has_by x y xs ys f g a b c Greater e = rw e (All-cons P y (merged key_cmp join (x ∷ xs) ys) g c)

  pub merged_has : (xs ys : List (List ℕ × R)) → All P xs → All P ys → All P (merged key_cmp join xs ys)
  merged_has [] ys f g = g
  merged_has (x ∷ xs) [] f g = f
  merged_has (x ∷ xs) (y ∷ ys) f g =
      let fs = All-tail P x xs f in
      let gs = All-tail P y ys g in
      has_by x y xs ys (All-head P x xs f) (All-head P y ys g) (merged_has xs (y ∷ ys) fs g) (merged_has xs ys fs gs) (merged_has (x ∷ xs) ys f gs) (key_cmp x.0 y.0) refl

module _ {R : Type 0} {join : R → R → R} {s : Words R} (laws : Laws join s) where
  joined_fits : (x y : List ℕ × R) → Fits s x → Fits s y → key_cmp x.0 y.0 ≡ Equal → Fits s (x.0, join x.1 y.1)
  joined_fits x y f g e =
      let one : x.0 ≡ y.0 = slice_identical nat_identical x.0 y.0 e in
      let same : Same s x.1 y.1 = record { first_proper = f.proper; second_proper = g.proper; table = f.table ∙ sym g.table; key = f.key ∙ (one ∙ sym g.key) } in
      record { proper = laws.joined_is_proper x.1 y.1 same; table = laws.joined_table x.1 y.1 same ∙ f.table; key = laws.joined_key x.1 y.1 same ∙ f.key }

  pub merged_fit : (xs ys : List (List ℕ × R)) → All (Fits s) xs → All (Fits s) ys → All (Fits s) (merged key_cmp join xs ys)
  merged_fit = merged_has join (Fits s) joined_fits
