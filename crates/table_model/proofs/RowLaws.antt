-- What merging a row in does to rows in order, and from it what rows the contents have.
use Rattle.std.specs.Prelude.{◌≡◌, ℕ, ◌==◌, Bool, true, false, cond, not, List, [], ◌∷◌, Option, Some, None, IsTrue, filter, map, refl}
use Rattle.std.proofs.Common.{ap, sym, ◌∙◌}
use Rattle.std.proofs.lemmas.List.Elements.{All-nil, All-cons, All-head, All-tail}
use Rattle.std.specs.List.{AllByRecursion}
use Rattle.std.specs.List.Sorted.{IsStrictlySortedBy}
use Rattle.std.specs.declared.cmp.Ordering.{Ordering}
use Rattle.std.specs.declared.cmp.Ordering.TheVariants.{Less, Equal, Greater}
use Rattle.std.specs.Ordering.{is_eq}
use Rattle.std.specs.Cmp.{IsTotalOrder}
use Rattle.std.proofs.lemmas.Cmp.{nat_cmp_total, nat_list_cmp_total, on_total, then_total, tied_back, alike_right}
use Rattle.crdt_core.specs.Orders.{Identifies}
use Rattle.crdt_core.specs.IdentityLaws.{nat_identical, slice_identical, pair_identical}
use Rattle.crdt_core.specs.LexLaws.{turned}
use Rattle.crdt_core.specs.Order.{option_join}
use Rattle.crdt_core.specs.Entries.{is_ascending, is_below, value_at}
use Rattle.crdt_core.specs.EntryLaws.{and_both, same_entries}
use Rattle.table_schema.specs.Words.{Words, partition_at, partition_of}
use Rattle.table_schema.specs.Laws.{Same, Laws}
use Rattle.table_model.specs.Rows.{place_cmp, place, row_cmp, is_at, AllProper, row_at, merged_in, rows, find_row, rows_in, without}

pub place_total : IsTotalOrder place_cmp
place_total = then_total (on_total (λ p. p.0) nat_cmp_total) (on_total (λ p. p.1) nat_list_cmp_total)

pub place_identical : Identifies place_cmp
place_identical = pair_identical nat_identical (slice_identical nat_identical)

-- ---- rows in order

module _ {R : Type 0} (s : Words R) where
  -- the place is below those of all rows
  abbrev pub Above : ℕ × List ℕ → List R → Type 0
  Above p [] = Unit {0}
  Above p (x ∷ xs) = (place_cmp p (place s x) ≡ Less) × Above p xs

  -- rows in order of their places, none twice
  abbrev pub Ascends : List R → Type 0
  Ascends [] = Unit {0}
  Ascends (x ∷ xs) = Above (place s x) xs × Ascends xs

  pub above_lower : (p q : ℕ × List ℕ) (xs : List R) → place_cmp p q ≡ Less → Above q xs → Above p xs
  above_lower p q [] h a = tt
  above_lower p q (x ∷ xs) h a = (place_total.trans p q (place s x) h a.0, above_lower p q xs h a.1)

  pub above_filter : (test : R → Bool) (p : ℕ × List ℕ) (xs : List R) → Above p xs → Above p (filter test xs)
  above_filter test p [] a = tt
  above_filter test p (x ∷ xs) a =
      elim (test x) as (λ b. Above p (cond b (x ∷ filter test xs) (filter test xs))) [ true ↦ (a.0, above_filter test p xs a.1) | false ↦ above_filter test p xs a.1 ]

  -- no row is at a place below all
  pub none_above : (table : ℕ) (key : List ℕ) (xs : List R) → Above (table, key) xs → find_row s table key xs ≡ None
  none_above table key [] a = refl
  none_above table key (x ∷ xs) a = rw a.0 (none_above table key xs a.1)

  all_above : (x : R) (xs : List R) → Above (place s x) xs → AllByRecursion (λ y. row_cmp s x y ≡ Less) xs
  all_above x [] a = tt
  all_above x (y ∷ ys) a = (a.0, all_above x ys a.1)

  pub strictly_sorted : (xs : List R) → Ascends xs → IsStrictlySortedBy (row_cmp s) xs
  unfolding IsStrictlySortedBy
  strictly_sorted [] a = tt
  strictly_sorted (x ∷ xs) a = (all_above x xs a.0, strictly_sorted xs a.1)

  -- the rows with their places, as entries
  abbrev pub placed : List R → List ((ℕ × List ℕ) × R)
  placed xs = map (λ r. (place s r, r)) xs

  placed_back : (xs : List R) → map (λ e. e.1) (placed xs) ≡ xs
  placed_back [] = refl
  placed_back (x ∷ xs) = ap (λ ys. x ∷ ys) (placed_back xs)

  placed_below : (p : ℕ × List ℕ) (xs : List R) → Above p xs → is_below place_cmp p (placed xs) ≡ true
  placed_below p [] a = refl
  placed_below p (x ∷ xs) a = rw a.0 refl

  placed_ascends : (xs : List R) → Ascends xs → is_ascending place_cmp (placed xs) ≡ true
  placed_ascends [] a = refl
  placed_ascends (x ∷ xs) a = and_both _ _ (placed_below (place s x) xs a.0) (placed_ascends xs a.1)

  value_by : (p : ℕ × List ℕ) (x : R) (xs : List R) → Above (place s x) xs → value_at place_cmp p (placed xs) ≡ find_row s p.0 p.1 xs → (o : Ordering) → place_cmp p (place s x) ≡ o → value_at place_cmp p (placed (x ∷ xs)) ≡ find_row s p.0 p.1 (x ∷ xs)
  value_by p x xs a rest Less e = rw e (sym (none_above p.0 p.1 xs (above_lower p (place s x) xs e a)))
  value_by p x xs a rest Equal e = rw e refl
  value_by p x xs a rest Greater e = rw e rest

  value_is : (p : ℕ × List ℕ) (xs : List R) → Ascends xs → value_at place_cmp p (placed xs) ≡ find_row s p.0 p.1 xs
  value_is p [] a = refl
  value_is p (x ∷ xs) a = value_by p x xs a.0 (value_is p xs a.1) (place_cmp p (place s x)) refl

  -- rows in order are one where each place has one row
  pub same_rows : (xs ys : List R) → Ascends xs → Ascends ys → ((table : ℕ) (key : List ℕ) → find_row s table key xs ≡ find_row s table key ys) → xs ≡ ys
  same_rows xs ys a b h =
      let same = same_entries place_total place_identical (placed xs) (placed ys) (placed_ascends xs a) (placed_ascends ys b)
      (λ p. value_is p xs a ∙ (h p.0 p.1 ∙ sym (value_is p ys b))) in
      sym (placed_back xs) ∙ (ap (map (λ e. e.1)) same ∙ placed_back ys)

-- ---- a row merged in

module _ {R : Type 0} {join : R → R → R} {s : Words R} (laws : Laws join s) where
  pub same_at : (a b : R) → IsTrue (s.is_proper a) → IsTrue (s.is_proper b) → row_cmp s a b ≡ Equal → Same s a b
  same_at a b p q e =
      let one = place_identical (place s a) (place s b) e in
      record { first_proper = p; second_proper = q; table = ap (λ x. x.0) one; key = ap (λ x. x.1) one }

  -- where r and x are at one place, x merged with r is there too
  pub joins : (r x : R) → IsTrue (s.is_proper r) → IsTrue (s.is_proper x) → row_cmp s r x ≡ Equal → Same s x r
  joins r x p q e = same_at x r q p (tied_back place_total (place s r) (place s x) e)

  pub joined_place : (a b : R) → Same s a b → place s (join a b) ≡ place s a
  joined_place a b same = λ i. (laws.joined_table a b same i, laws.joined_key a b same i)

  proper_by : (r x : R) (xs : List R) → IsTrue (s.is_proper r) → IsTrue (s.is_proper x) → AllProper s xs → AllProper s (merged_in join s r xs) → (o : Ordering) → row_cmp s r x ≡ o → AllProper s (merged_in join s r (x ∷ xs))
  proper_by r x xs p q all rest Less e = rw e (All-cons (λ y. IsTrue (s.is_proper y)) r (x ∷ xs) p (All-cons (λ y. IsTrue (s.is_proper y)) x xs q all))
  proper_by r x xs p q all rest Equal e = rw e (All-cons (λ y. IsTrue (s.is_proper y)) (join x r) xs (laws.joined_is_proper x r (joins r x p q e)) all)
  proper_by r x xs p q all rest Greater e = rw e (All-cons (λ y. IsTrue (s.is_proper y)) x (merged_in join s r xs) q rest)

  pub proper_merged : (r : R) (xs : List R) → IsTrue (s.is_proper r) → AllProper s xs → AllProper s (merged_in join s r xs)
  proper_merged r [] p all = All-cons (λ y. IsTrue (s.is_proper y)) r [] p all
  proper_merged r (x ∷ xs) p all =
      let q = All-head (λ y. IsTrue (s.is_proper y)) x xs all in
      let others = All-tail (λ y. IsTrue (s.is_proper y)) x xs all in
      proper_by r x xs p q others (proper_merged r xs p others) (row_cmp s r x) refl

  above_by : (k : ℕ × List ℕ) (r x : R) (xs : List R) → IsTrue (s.is_proper r) → IsTrue (s.is_proper x) → place_cmp k (place s r) ≡ Less → Above s k (x ∷ xs) → Above s k (merged_in join s r xs) → (o : Ordering) → row_cmp s r x ≡ o → Above s k (merged_in join s r (x ∷ xs))
  above_by k r x xs p q h a rest Less e = rw e (h, a)
  above_by k r x xs p q h a rest Equal e = let same = joins r x p q e in rw e (ap (place_cmp k) (joined_place x r same) ∙ a.0, a.1)
  above_by k r x xs p q h a rest Greater e = rw e (a.0, rest)

  above_merged : (k : ℕ × List ℕ) (r : R) (xs : List R) → IsTrue (s.is_proper r) → AllProper s xs → place_cmp k (place s r) ≡ Less → Above s k xs → Above s k (merged_in join s r xs)
  above_merged k r [] p all h a = (h, tt)
  above_merged k r (x ∷ xs) p all h a =
      let q = All-head (λ y. IsTrue (s.is_proper y)) x xs all in
      let others = All-tail (λ y. IsTrue (s.is_proper y)) x xs all in
      above_by k r x xs p q h a (above_merged k r xs p others h a.1) (row_cmp s r x) refl

  above_place : (k m : ℕ × List ℕ) (xs : List R) → k ≡ m → Above s m xs → Above s k xs
  above_place k m [] e a = tt
  above_place k m (x ∷ xs) e a = (ap (λ p. place_cmp p (place s x)) e ∙ a.0, above_place k m xs e a.1)

  ascends_by : (r x : R) (xs : List R) → IsTrue (s.is_proper r) → IsTrue (s.is_proper x) → AllProper s xs → Ascends s (x ∷ xs) → Ascends s (merged_in join s r xs) → (o : Ordering) → row_cmp s r x ≡ o → Ascends s (merged_in join s r (x ∷ xs))
  ascends_by r x xs p q all a rest Less e = rw e ((e, above_lower s (place s r) (place s x) xs e a.0), a)
  ascends_by r x xs p q all a rest Equal e = rw e (above_place (place s (join x r)) (place s x) xs (joined_place x r (joins r x p q e)) a.0, a.1)
  ascends_by r x xs p q all a rest Greater e = rw e (above_merged (place s x) r xs p all (turned place_total (place s r) (place s x) Greater e) a.0, rest)

  pub ascends_merged : (r : R) (xs : List R) → IsTrue (s.is_proper r) → AllProper s xs → Ascends s xs → Ascends s (merged_in join s r xs)
  ascends_merged r [] p all a = (tt, tt)
  ascends_merged r (x ∷ xs) p all a =
      let q = All-head (λ y. IsTrue (s.is_proper y)) x xs all in
      let others = All-tail (λ y. IsTrue (s.is_proper y)) x xs all in
      ascends_by r x xs p q others a (ascends_merged r xs p others a.1) (row_cmp s r x) refl

  -- ---- what is found after it

  before_by : (table : ℕ) (key : List ℕ) (r x : R) (xs : List R) → row_cmp s r x ≡ Less → Above s (place s x) xs → (o : Ordering) → place_cmp (table, key) (place s r) ≡ o →
      cond (is_at s table key r) (Some r) (find_row s table key (x ∷ xs)) ≡ cond (is_at s table key r) (option_join join (find_row s table key (x ∷ xs)) (Some r)) (find_row s table key (x ∷ xs))
  before_by table key r x xs e a Less h = rw h refl
  before_by table key r x xs e a Equal h =
      let here : place_cmp (table, key) (place s x) ≡ Less = place_total.congr (table, key) (place s r) (place s x) h ∙ e in
      rw (h, none_above s table key (x ∷ xs) (here, above_lower s (table, key) (place s x) xs here a)) refl
  before_by table key r x xs e a Greater h = rw h refl

  joined_by : (at_join at_r at_x : Ordering) (r x : R) (rest : Option R) → at_join ≡ at_x → at_r ≡ at_x →
      cond (is_eq at_join) (Some (join x r)) rest ≡ cond (is_eq at_r) (option_join join (cond (is_eq at_x) (Some x) rest) (Some r)) (cond (is_eq at_x) (Some x) rest)
  joined_by at_join at_r Less r x rest e f = rw (e, f) refl
  joined_by at_join at_r Equal r x rest e f = rw (e, f) refl
  joined_by at_join at_r Greater r x rest e f = rw (e, f) refl

  after_by : (at_x : Bool) (at_r : Ordering) (r x : R) (rest more : Option R) → more ≡ cond (is_eq at_r) (option_join join rest (Some r)) rest → (at_x ≡ true → is_eq at_r ≡ false) →
      cond at_x (Some x) more ≡ cond (is_eq at_r) (option_join join (cond at_x (Some x) rest) (Some r)) (cond at_x (Some x) rest)
  after_by true at_r r x rest more h apart = rw (apart refl) refl
  after_by false at_r r x rest more h apart = h

  equal_is : (o : Ordering) → is_eq o ≡ true → o ≡ Equal
  equal_is Less e = cc
  equal_is Equal e = refl
  equal_is Greater e = cc

  found_by : (table : ℕ) (key : List ℕ) (r x : R) (xs : List R) → IsTrue (s.is_proper r) → IsTrue (s.is_proper x) → Above s (place s x) xs →
      find_row s table key (merged_in join s r xs) ≡ cond (is_at s table key r) (option_join join (find_row s table key xs) (Some r)) (find_row s table key xs) →
      (o : Ordering) → row_cmp s r x ≡ o →
      find_row s table key (merged_in join s r (x ∷ xs)) ≡ cond (is_at s table key r) (option_join join (find_row s table key (x ∷ xs)) (Some r)) (find_row s table key (x ∷ xs))
  found_by table key r x xs p q a rest Less e = rw e (before_by table key r x xs e a (place_cmp (table, key) (place s r)) refl)
  found_by table key r x xs p q a rest Equal e =
      rw e (joined_by (place_cmp (table, key) (place s (join x r))) (place_cmp (table, key) (place s r)) (place_cmp (table, key) (place s x)) r x (find_row s table key xs)
      (ap (place_cmp (table, key)) (joined_place x r (joins r x p q e)))
      (alike_right place_total (place s r) (place s x) (table, key) e))
  found_by table key r x xs p q a rest Greater e =
      rw e (after_by (is_at s table key x) (place_cmp (table, key) (place s r)) r x (find_row s table key xs) (find_row s table key (merged_in join s r xs)) rest
      (λ h. ap is_eq (place_total.congr (table, key) (place s x) (place s r) (equal_is _ h) ∙ turned place_total (place s r) (place s x) Greater e)))

  pub found_merged : (table : ℕ) (key : List ℕ) (r : R) (xs : List R) → IsTrue (s.is_proper r) → AllProper s xs → Ascends s xs →
      find_row s table key (merged_in join s r xs) ≡ cond (is_at s table key r) (option_join join (find_row s table key xs) (Some r)) (find_row s table key xs)
  found_merged table key r [] p all a = refl
  found_merged table key r (x ∷ xs) p all a =
      let q = All-head (λ y. IsTrue (s.is_proper y)) x xs all in
      let others = All-tail (λ y. IsTrue (s.is_proper y)) x xs all in
      found_by table key r x xs p q a.0 (found_merged table key r xs p others a.1) (row_cmp s r x) refl

  -- ---- a test that is one for rows of one place

  merged_first : (r : R) (xs : List R) → Above s (place s r) xs → merged_in join s r xs ≡ r ∷ xs
  merged_first r [] a = refl
  merged_first r (x ∷ xs) a = rw a.0 refl

  module _ (test : R → Bool) (alike : (a b : R) → Same s a b → test a ≡ test b) where
    alike_joined : (r x : R) → Same s x r → test (join x r) ≡ test x
    alike_joined r x same =
        alike (join x r) x (record {
          first_proper = laws.joined_is_proper x r same;
          second_proper = same.first_proper;
          table = laws.joined_table x r same;
          key = laws.joined_key x r same;
        })

    less_filter : (t : Bool) (r x : R) (ys : List R) → row_cmp s r x ≡ Less → Above s (place s r) ys → r ∷ cond t (x ∷ ys) ys ≡ merged_in join s r (cond t (x ∷ ys) ys)
    less_filter true r x ys e a = rw e refl
    less_filter false r x ys e a = sym (merged_first r ys a)

    greater_filter : (t : Bool) (r x : R) (more ys : List R) → row_cmp s r x ≡ Greater → more ≡ merged_in join s r ys → cond t (x ∷ more) more ≡ merged_in join s r (cond t (x ∷ ys) ys)
    greater_filter true r x more ys e h = rw e (ap (λ zs. x ∷ zs) h)
    greater_filter false r x more ys e h = h

    passes_by : (r x : R) (xs : List R) → IsTrue (s.is_proper r) → IsTrue (s.is_proper x) → Above s (place s x) xs → test r ≡ true →
        filter test (merged_in join s r xs) ≡ merged_in join s r (filter test xs) →
        (o : Ordering) → row_cmp s r x ≡ o → filter test (merged_in join s r (x ∷ xs)) ≡ merged_in join s r (filter test (x ∷ xs))
    passes_by r x xs p q a h rest Less e = rw (e, h) (less_filter (test x) r x (filter test xs) e (above_filter s test (place s r) xs (above_lower s (place s r) (place s x) xs e a)))
    passes_by r x xs p q a h rest Equal e =
        let same = joins r x p q e in
        let now = alike_joined r x same in
        let was : test x ≡ true = alike x r same ∙ h in
        rw (e, now, was, e) refl
    passes_by r x xs p q a h rest Greater e = rw e (greater_filter (test x) r x (filter test (merged_in join s r xs)) (filter test xs) e rest)

    -- a row that passes is merged into those that pass
    pub filter_passing : (r : R) (xs : List R) → IsTrue (s.is_proper r) → AllProper s xs → Ascends s xs → test r ≡ true → filter test (merged_in join s r xs) ≡ merged_in join s r (filter test xs)
    filter_passing r [] p all a h = rw h refl
    filter_passing r (x ∷ xs) p all a h =
        let q = All-head (λ y. IsTrue (s.is_proper y)) x xs all in
        let others = All-tail (λ y. IsTrue (s.is_proper y)) x xs all in
        passes_by r x xs p q a.0 h (filter_passing r xs p others a.1 h) (row_cmp s r x) refl

    fails_by : (r x : R) (xs : List R) → IsTrue (s.is_proper r) → IsTrue (s.is_proper x) → test r ≡ false →
        filter test (merged_in join s r xs) ≡ filter test xs →
        (o : Ordering) → row_cmp s r x ≡ o → filter test (merged_in join s r (x ∷ xs)) ≡ filter test (x ∷ xs)
    fails_by r x xs p q h rest Less e = rw (e, h) refl
    fails_by r x xs p q h rest Equal e =
        let same = joins r x p q e in
        let now = alike_joined r x same in
        let was : test x ≡ false = alike x r same ∙ h in
        rw (e, now, was) refl
    fails_by r x xs p q h rest Greater e = rw (e, rest) refl

    -- a row that doesn't pass leaves those that pass
    pub filter_failing : (r : R) (xs : List R) → IsTrue (s.is_proper r) → AllProper s xs → test r ≡ false → filter test (merged_in join s r xs) ≡ filter test xs
    filter_failing r [] p all h = rw h refl
    filter_failing r (x ∷ xs) p all h =
        let q = All-head (λ y. IsTrue (s.is_proper y)) x xs all in
        let others = All-tail (λ y. IsTrue (s.is_proper y)) x xs all in
        fails_by r x xs p q h (filter_failing r xs p others h) (row_cmp s r x) refl

  -- ---- contents

  pub rows_proper : (contents : List R) → AllProper s contents → AllProper s (rows join s contents)
  rows_proper [] all = All-nil (λ y. IsTrue (s.is_proper y))
  rows_proper (r ∷ older) all =
      proper_merged r (rows join s older) (All-head (λ y. IsTrue (s.is_proper y)) r older all) (rows_proper older (All-tail (λ y. IsTrue (s.is_proper y)) r older all))

  pub rows_ascend : (contents : List R) → AllProper s contents → Ascends s (rows join s contents)
  rows_ascend [] all = tt
  rows_ascend (r ∷ older) all =
      let others = All-tail (λ y. IsTrue (s.is_proper y)) r older all in
      ascends_merged r (rows join s older) (All-head (λ y. IsTrue (s.is_proper y)) r older all) (rows_proper older others) (rows_ascend older others)

  pub row_found : (contents : List R) (table : ℕ) (key : List ℕ) → AllProper s contents → find_row s table key (rows join s contents) ≡ row_at join s contents table key
  row_found [] table key all = refl
  row_found (r ∷ older) table key all =
      let others = All-tail (λ y. IsTrue (s.is_proper y)) r older all in
      found_merged table key r (rows join s older) (All-head (λ y. IsTrue (s.is_proper y)) r older all) (rows_proper older others) (rows_ascend older others)
      ∙ ap (λ o. cond (is_at s table key r) (option_join join o (Some r)) o) (row_found older table key others)

  module _ (test : R → Bool) (alike : (a b : R) → Same s a b → test a ≡ test b) where
    split_by : (r : R) (older : List R) → IsTrue (s.is_proper r) → AllProper s older → rows join s (filter test older) ≡ filter test (rows join s older) → (b : Bool) → test r ≡ b → rows join s (filter test (r ∷ older)) ≡ filter test (rows join s (r ∷ older))
    split_by r older p all rest true e = rw e (ap (merged_in join s r) rest ∙ sym (filter_passing test alike r (rows join s older) p (rows_proper older all) (rows_ascend older all) e))
    split_by r older p all rest false e = rw e (rest ∙ sym (filter_failing test alike r (rows join s older) p (rows_proper older all) e))

    -- the rows of the members that pass are the rows that pass
    pub rows_filter : (contents : List R) → AllProper s contents → rows join s (filter test contents) ≡ filter test (rows join s contents)
    rows_filter [] all = refl
    rows_filter (r ∷ older) all =
        let others = All-tail (λ y. IsTrue (s.is_proper y)) r older all in
        split_by r older (All-head (λ y. IsTrue (s.is_proper y)) r older all) others (rows_filter older others) (test r) refl

  pub rows_of_partition : (contents : List R) (p : ℕ) → AllProper s contents → rows join s (rows_in s p contents) ≡ rows_in s p (rows join s contents)
  rows_of_partition contents p all = rows_filter (λ r. partition_of s r == p) (λ a b same. ap (λ position. partition_at position == p) (laws.one_position a b same)) contents all

  pub rows_without : (contents : List R) (p : ℕ) → AllProper s contents → rows join s (without s p contents) ≡ without s p (rows join s contents)
  rows_without contents p all = rows_filter (λ r. not (partition_of s r == p)) (λ a b same. ap (λ position. not (partition_at position == p)) (laws.one_position a b same)) contents all
