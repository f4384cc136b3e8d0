-- The rows of table 1 at some keys, in order, are those rows that have one of the keys.
use Rattle.std.specs.Prelude.{◌≡◌, ℕ, ◌==◌, ◌&&◌, ◌||◌, Bool, true, false, cond, List, [], ◌∷◌, Option, Some, None, refl}
use Rattle.std.proofs.Common.{ap, sym, ◌∙◌, subst, eq-eqb}
use Rattle.std.specs.List.{AllByRecursion, filter}
use Rattle.std.specs.List.Sorted.{IsStrictlySortedBy}
use Rattle.std.specs.declared.cmp.Ordering.{Ordering}
use Rattle.std.specs.declared.cmp.Ordering.TheVariants.{Less, Equal, Greater}
use Rattle.std.specs.Ordering.{nat_cmp, is_eq, ordering_then}
use Rattle.std.specs.Cmp.{Equal-is}
use Rattle.std.specs.Cmp.Lexicographic.{slice_cmp}
use Rattle.std.proofs.lemmas.Bool.{both_ways, eqb-true}
use Rattle.std.proofs.lemmas.Cmp.{tied_itself, tied_back}
use Rattle.std.proofs.lemmas.Map.Keys.{sorted_head, sorted_tail}
use Rattle.crdt_core.specs.IdentityLaws.{slice_identical, nat_identical}
use Rattle.table_schema.specs.Words.{Words}
use Rattle.table_model.specs.Rows.{find_row, is_at, place, place_cmp}
use Rattle.table_model.proofs.RowLaws.{Above, Ascends, above_filter, none_above, place_identical, place_total, same_rows}
use Rattle.table_store.specs.Index.{Key, has_key}
use Rattle.table_store.specs.Shelf.{vec_cmp}
use Rattle.node_parts.specs.Collects.{rows_at}

some_is : {X : Type 0} (a b : X) → Some a ≡ Some b → a ≡ b
some_is a b e = cc

module _ {R : Type 0} (join : R → R → R) (s : Words R) where
  -- ---- the row that a place finds

  at_place : (table : ℕ) (key : List ℕ) (r : R) → is_at s table key r ≡ true → (table, key) ≡ place s r
  at_place table key r h = place_identical (table, key) (place s r) ((Equal-is _).0 h)

  found_by : (table : ℕ) (key : List ℕ) (x r : R) (xs : List R) → (find_row s table key xs ≡ Some r → (table, key) ≡ place s r) → (b : Bool) → is_at s table key x ≡ b → cond b (Some x) (find_row s table key xs) ≡ Some r → (table, key) ≡ place s r
  found_by table key x r xs rest true h is = at_place table key x h ∙ ap (place s) (some_is x r is)
  found_by table key x r xs rest false h is = rest is

  pub found_place : (table : ℕ) (key : List ℕ) (r : R) (xs : List R) → find_row s table key xs ≡ Some r → (table, key) ≡ place s r
  found_place table key r [] is = let no : None ≡ Some r = is in cc
  found_place table key r (x ∷ xs) is = found_by table key x r xs (found_place table key r xs) (is_at s table key x) refl is

  -- each row is found at its place
  found_past : (x : R) (xs rest : List R) → Above s (place s x) rest → AllByRecursion (λ r. find_row s (s.table r) (s.key r) xs ≡ Some r) rest → AllByRecursion (λ r. find_row s (s.table r) (s.key r) (x ∷ xs) ≡ Some r) rest
  found_past x xs [] above all = tt
  found_past x xs (r ∷ rest) above all =
      let apart : is_at s (s.table r) (s.key r) x ≡ false = apart_by (place_cmp (place s r) (place s x)) refl in
      (ap (λ b. cond b (Some x) (find_row s (s.table r) (s.key r) xs)) apart ∙ all.0, found_past x xs rest above.1 all.1)
    where
      apart_by : (o : Ordering) → place_cmp (place s r) (place s x) ≡ o → is_eq o ≡ false
      apart_by Less h = refl
      apart_by Greater h = refl
      apart_by Equal h = let wrong : Equal ≡ Less = sym (tied_back place_total (place s r) (place s x) h) ∙ above.0 in cc

  pub each_found : (xs : List R) → Ascends s xs → AllByRecursion (λ r. find_row s (s.table r) (s.key r) xs ≡ Some r) xs
  each_found [] a = tt
  each_found (x ∷ xs) a = (
    ap (λ o. cond (is_eq o) (Some x) (find_row s (s.table x) (s.key x) xs)) (tied_itself place_total (place s x)),
    found_past x xs xs a.0 (each_found xs a.1),
  )

  -- ---- the rows at keys

  module _ (xs : List R) where
    above_by : (q : List ℕ) (k : Key) (ks : List Key) → slice_cmp nat_cmp q k.items ≡ Less → Above s (1, q) (rows_at join s xs ks) → (o : Option R) → find_row s 1 k.items xs ≡ o → Above s (1, q) (rows_at join s xs (k ∷ ks))
    above_by q k ks below rest None is = rw is rest
    above_by q k ks below rest (Some r) is =
        rw is ((ap (place_cmp (1, q)) (sym (found_place 1 k.items r xs is)) ∙ below, rest))

    above_rows : (q : List ℕ) (ks : List Key) → AllByRecursion (λ k. slice_cmp nat_cmp q k.items ≡ Less) ks → Above s (1, q) (rows_at join s xs ks)
    above_rows q [] all = tt
    above_rows q (k ∷ ks) all = above_by q k ks all.0 (above_rows q ks all.1) (find_row s 1 k.items xs) refl

    ascends_by : (k : Key) (ks : List Key) → AllByRecursion (λ l. slice_cmp nat_cmp k.items l.items ≡ Less) ks → Ascends s (rows_at join s xs ks) → (o : Option R) → find_row s 1 k.items xs ≡ o → Ascends s (rows_at join s xs (k ∷ ks))
    ascends_by k ks above rest None is = rw is rest
    ascends_by k ks above rest (Some r) is = rw is ((subst (λ q. Above s q (rows_at join s xs ks)) (found_place 1 k.items r xs is) (above_rows k.items ks above), rest))

    ascends_at : (ks : List Key) → IsStrictlySortedBy vec_cmp ks → Ascends s (rows_at join s xs ks)
    ascends_at [] sorted = tt
    ascends_at (k ∷ ks) sorted = ascends_by k ks (sorted_head vec_cmp k ks sorted) (ascends_at ks (sorted_tail vec_cmp k ks sorted)) (find_row s 1 k.items xs) refl

    -- ---- what a place finds among them

    abbrev found_at : ℕ → List ℕ → List Key → Option R
    found_at table key ks = cond ((1 == table) && has_key key ks) (find_row s 1 key xs) None

    none_both : (b : Bool) (o : Option R) → o ≡ None → cond b o None ≡ None
    none_both true o h = h
    none_both false o h = refl

    -- the key is there and finds nothing
    miss_by : (table : ℕ) (key : List ℕ) (k : Key) (ks : List Key) → find_row s 1 k.items xs ≡ None → (b : Bool) → is_eq (slice_cmp nat_cmp key k.items) ≡ b → found_at table key ks ≡ cond ((1 == table) && (b || has_key key ks)) (find_row s 1 key xs) None
    miss_by table key k ks none true h =
        let one : key ≡ k.items = slice_identical nat_identical key k.items ((Equal-is _).0 h) in
        let nothing : find_row s 1 key xs ≡ None = ap (λ q. find_row s 1 q xs) one ∙ none in
        none_both ((1 == table) && has_key key ks) (find_row s 1 key xs) nothing ∙ sym (none_both ((1 == table) && true) (find_row s 1 key xs) nothing)
    miss_by table key k ks none false h = refl

    -- the key finds a row
    hit_by : (table : ℕ) (key : List ℕ) (k : Key) (ks : List Key) (r : R) → find_row s 1 k.items xs ≡ Some r → find_row s table key (rows_at join s xs ks) ≡ found_at table key ks →
        (t : Bool) → (1 == table) ≡ t → (b : Bool) → is_eq (slice_cmp nat_cmp key k.items) ≡ b → cond (is_eq (ordering_then (nat_cmp table 1) (slice_cmp nat_cmp key k.items))) (Some r) (find_row s table key (rows_at join s xs ks)) ≡ cond (t && (b || has_key key ks)) (find_row s 1 key xs) None
    hit_by table key k ks r is rest true t true h =
        let one : table ≡ 1 = sym (eqb-true 1 table t) in
        let same : key ≡ k.items = slice_identical nat_identical key k.items ((Equal-is _).0 h) in
        let here : is_eq (ordering_then (nat_cmp table 1) (slice_cmp nat_cmp key k.items)) ≡ true = ap (λ n. is_eq (ordering_then (nat_cmp n 1) (slice_cmp nat_cmp key k.items))) one ∙ h in
        ap (λ b. cond b (Some r) (find_row s table key (rows_at join s xs ks))) here ∙ (sym is ∙ ap (λ q. find_row s 1 q xs) (sym same))
    hit_by table key k ks r is rest true t false h =
        let one : table ≡ 1 = sym (eqb-true 1 table t) in
        let apart : is_eq (ordering_then (nat_cmp table 1) (slice_cmp nat_cmp key k.items)) ≡ false = ap (λ n. is_eq (ordering_then (nat_cmp n 1) (slice_cmp nat_cmp key k.items))) one ∙ h in
        ap (λ b. cond b (Some r) (find_row s table key (rows_at join s xs ks))) apart ∙ (rest ∙ ap (λ b. cond (b && has_key key ks) (find_row s 1 key xs) None) t)
    hit_by table key k ks r is rest false t b h =
        let apart : is_eq (ordering_then (nat_cmp table 1) (slice_cmp nat_cmp key k.items)) ≡ false = other_table (nat_cmp table 1) refl in
        ap (λ b. cond b (Some r) (find_row s table key (rows_at join s xs ks))) apart ∙ (rest ∙ ap (λ b. cond (b && has_key key ks) (find_row s 1 key xs) None) t)
      where
        other_table : (o : Ordering) → nat_cmp table 1 ≡ o → is_eq (ordering_then o (slice_cmp nat_cmp key k.items)) ≡ false
        other_table Less e = refl
        other_table Greater e = refl
        other_table Equal e = absurd (both_ways (1 == table) t (eq-eqb 1 table (sym (nat_identical table 1 e))))

    find_by : (table : ℕ) (key : List ℕ) (k : Key) (ks : List Key) → find_row s table key (rows_at join s xs ks) ≡ found_at table key ks → (o : Option R) → find_row s 1 k.items xs ≡ o → find_row s table key (rows_at join s xs (k ∷ ks)) ≡ found_at table key (k ∷ ks)
    find_by table key k ks rest None is = rw is (rest ∙ miss_by table key k ks is (is_eq (slice_cmp nat_cmp key k.items)) refl)
    find_by table key k ks rest (Some r) is =
        rw is
        (ap (λ q. cond (is_eq (place_cmp (table, key) q)) (Some r) (find_row s table key (rows_at join s xs ks))) (sym (found_place 1 k.items r xs is))
        ∙ hit_by table key k ks r is rest (1 == table) refl (is_eq (slice_cmp nat_cmp key k.items)) refl)

    find_at : (table : ℕ) (key : List ℕ) (ks : List Key) → find_row s table key (rows_at join s xs ks) ≡ found_at table key ks
    find_at table key [] = none_either (1 == table)
      where
        none_either : (b : Bool) → None ≡ cond (b && false) (find_row s 1 key xs) None
        none_either true = refl
        none_either false = refl
    find_at table key (k ∷ ks) = find_by table key k ks (find_at table key ks) (find_row s 1 k.items xs) refl

  -- ---- what a place finds among those that pass

  abbrev passing : (R → Bool) → Option R → Option R
  passing test None = None
  passing test (Some r) = cond (test r) (Some r) None

  filter_by : (test : R → Bool) (table : ℕ) (key : List ℕ) (x : R) (xs : List R) → Above s (place s x) xs → find_row s table key (filter test xs) ≡ passing test (find_row s table key xs) →
      (b : Bool) → is_at s table key x ≡ b → (c : Bool) → test x ≡ c → find_row s table key (cond c (x ∷ filter test xs) (filter test xs)) ≡ passing test (cond b (Some x) (find_row s table key xs))
  filter_by test table key x xs above rest true h true passes = ap (λ b. cond b (Some x) (find_row s table key (filter test xs))) h ∙ sym (ap (λ c. cond c (Some x) None) passes)
  filter_by test table key x xs above rest true h false passes =
      let none : find_row s table key (filter test xs) ≡ None = none_above s table key (filter test xs) (subst (λ q. Above s q (filter test xs)) (sym (at_place table key x h)) (above_filter s test (place s x) xs above)) in
      none ∙ sym (ap (λ c. cond c (Some x) None) passes)
  filter_by test table key x xs above rest false h true passes = ap (λ b. cond b (Some x) (find_row s table key (filter test xs))) h ∙ rest
  filter_by test table key x xs above rest false h false passes = rest

  find_passing : (test : R → Bool) (table : ℕ) (key : List ℕ) (xs : List R) → Ascends s xs → find_row s table key (filter test xs) ≡ passing test (find_row s table key xs)
  find_passing test table key [] a = refl
  find_passing test table key (x ∷ xs) a = filter_by test table key x xs a.0 (find_passing test table key xs a.1) (is_at s table key x) refl (test x) refl

  ascends_filter : (test : R → Bool) (xs : List R) → Ascends s xs → Ascends s (filter test xs)
  ascends_filter test [] a = tt
  ascends_filter test (x ∷ xs) a =
      elim (test x) as (λ b. Ascends s (cond b (x ∷ filter test xs) (filter test xs))) [ true ↦ (above_filter s test (place s x) xs a.0, ascends_filter test xs a.1) | false ↦ ascends_filter test xs a.1 ]

  -- ---- both are one

  -- the row is of table 1 and has one of these keys
  abbrev pub has_one_of : List Key → R → Bool
  has_one_of keys r = (s.table r == 1) && has_key (s.key r) keys

  module _ (xs : List R) (keys : List Key) where
    turn_eq : (a b : ℕ) → (a == b) ≡ (b == a)
    turn_eq a b = turn_by (a == b) refl (b == a) refl
      where
        turn_by : (c : Bool) → (a == b) ≡ c → (d : Bool) → (b == a) ≡ d → c ≡ d
        turn_by true h true i = refl
        turn_by false h false i = refl
        turn_by true h false i = absurd (both_ways (b == a) i (eq-eqb b a (sym (eqb-true a b h))))
        turn_by false h true i = absurd (both_ways (a == b) h (eq-eqb a b (sym (eqb-true b a i))))

    same_by : (table : ℕ) (key : List ℕ) (o : Option R) → find_row s table key xs ≡ o → (t : Bool) → (1 == table) ≡ t → cond (t && has_key key keys) (find_row s 1 key xs) None ≡ passing (has_one_of keys) o
    same_by table key None is true t =
        let here : find_row s 1 key xs ≡ None = ap (λ n. find_row s n key xs) (eqb-true 1 table t) ∙ is in
        none_either (has_key key keys) here
      where
        none_either : (b : Bool) → find_row s 1 key xs ≡ None → cond b (find_row s 1 key xs) None ≡ None
        none_either true h = h
        none_either false h = refl
    same_by table key None is false t = refl
    same_by table key (Some r) is true t =
        let one = eqb-true 1 table t in
        let here : find_row s 1 key xs ≡ Some r = ap (λ n. find_row s n key xs) one ∙ is in
        let at = found_place table key r xs is in
        let passes : has_one_of keys r ≡ has_key key keys = (λ i. (sym (ap (λ q. q.0) at) i == 1) && has_key (sym (ap (λ q. q.1) at) i) keys) ∙ ap (λ b. b && has_key key keys) (turn_eq table 1 ∙ t) in
        ap (λ o. cond (has_key key keys) o None) here ∙ sym (ap (λ b. cond b (Some r) None) passes)
    same_by table key (Some r) is false t =
        let at = found_place table key r xs is in
        let fails : has_one_of keys r ≡ false = (λ i. (sym (ap (λ q. q.0) at) i == 1) && has_key (s.key r) keys) ∙ ap (λ b. b && has_key (s.key r) keys) (turn_eq table 1 ∙ t) in
        sym (ap (λ b. cond b (Some r) None) fails)

    pub rows_at_is : Ascends s xs → IsStrictlySortedBy vec_cmp keys → rows_at join s xs keys ≡ filter (has_one_of keys) xs
    rows_at_is a sorted = same_rows s (rows_at join s xs keys) (filter (has_one_of keys) xs) (ascends_at xs keys sorted) (ascends_filter (has_one_of keys) xs a)
        (λ table key. find_at xs table key keys ∙ (same_by table key (find_row s table key xs) refl (1 == table) refl ∙ sym (find_passing (has_one_of keys) table key xs a)))
