-- Replicas that were equal in the older version are equal in the newer one.
use Rattle.std.specs.Prelude.{◌≡◌, ◌≢◌, ◌<◌, ℕ, Bool, true, false, cond, ◌==◌, IsTrue, Option, Some, None, List, [], ◌∷◌, filter, refl}
use Rattle.std.specs.Option.{unwrap_or}
use Rattle.std.specs.List.{AllByRecursion}
use Rattle.std.specs.Cmp.{Equal-is}
use Rattle.std.proofs.Common.{ap, sym, subst, ◌∙◌, inl, inr}
use Rattle.std.proofs.lemmas.Bool.{eqb-true, eqb-false, eq-eqb}
use Rattle.std.proofs.lemmas.List.Elements.{All-from_recursion, recursion_from_All}
use Rattle.table_schema.specs.Words.{Words, partition_at, partition_of}
use Rattle.table_schema.specs.Laws.{Laws}
use Rattle.table_model.specs.Rows.{AllProper, place_cmp, place, is_at, row_at, rows, rows_in, find_row}
use Rattle.table_model.proofs.RowLaws.{place_identical, same_rows, rows_proper, rows_ascend, row_found, rows_filter, rows_of_partition}
use Rattle.block_laws.proofs.Found.{rows_found, row_left}
use Rattle.quorum_model.specs.Quorum.{is_among}
use Rattle.cluster_machine.specs.Layouts.{Layouts, set_of}
use Rattle.cluster_machine.specs.Run.{IsLayout}
use Rattle.machine_origins.proofs.Lists.{all_filter}
use Rattle.drained_laws.specs.Waiting.{SomeOf, Has as HasOne}
use Rattle.drained_laws.specs.Drained.{AreEqual}
use Rattle.drained_laws.proofs.Waits.{all_has}
use Rattle.drained_laws.proofs.Posts.{three_at}
use Rattle.drained_laws.proofs.ReadBegins.{one_row}
use Rattle.drained_laws.proofs.Views.{among_here, among_there}
use Rattle.change_laws.specs.Handing.{HasGood}
use Rattle.change_laws.proofs.Lists.{found_some, some_filtered}

module _ {R : Type 0} {join : R → R → R} {s : Words R} (laws : Laws join s) where
  -- what is found is at its place
  found_at : (table : ℕ) (key : List ℕ) (xs : List R) (r : R) → find_row s table key xs ≡ Some r → (s.table r ≡ table) × (s.key r ≡ key)
  found_at table key [] r e = cc
  found_at table key (x ∷ xs) r e =
      elim (is_at s table key x) as (λ b. is_at s table key x ≡ b → cond b (Some x) (find_row s table key xs) ≡ Some r → (s.table r ≡ table) × (s.key r ≡ key)) [
        | true ↦ (λ at f.
            let same : (table, key) ≡ place s x = place_identical (table, key) (place s x) ((Equal-is (place_cmp (table, key) (place s x))).0 at) in
            let is : x ≡ r = ap (λ o. unwrap_or o x) f in
            (sym (ap s.table is) ∙ sym (ap (λ (p : ℕ × List ℕ). p.0) same), sym (ap s.key is) ∙ sym (ap (λ (p : ℕ × List ℕ). p.1) same)))
        | false ↦ (λ other f. found_at table key xs r f)
      ] refl e

  module _ (acc : List R) (proper : AllByRecursion (λ r. IsTrue (s.is_proper r)) acc) where
    all : AllProper s acc
    all = All-from_recursion (λ r. IsTrue (s.is_proper r)) acc proper

    pub row_there : (table : ℕ) (key : List ℕ) (r : R) → row_at join s acc table key ≡ Some r → HasOne (rows join s acc) r × IsTrue (s.is_proper r) × (s.table r ≡ table) × (s.key r ≡ key)
    row_there table key r e =
        let found : find_row s table key (rows join s acc) ≡ Some r = row_found laws acc table key all ∙ e in
        let has = found_some (is_at s table key) (rows join s acc) r found in
        let place_so = found_at table key (rows join s acc) r found in
        (has, all_has (λ r. IsTrue (s.is_proper r)) (rows join s acc) r (recursion_from_All (λ r. IsTrue (s.is_proper r)) (rows join s acc) (rows_proper laws acc all)) has, place_so.0, place_so.1)

    -- a row of a partition is among the rows of it
    pub in_partition : (p : ℕ) (r : R) → HasOne (rows join s acc) r → partition_of s r ≡ p → HasOne (rows_in s p (rows join s acc)) r
    in_partition p r has e = some_filtered (λ y. y ≡ r) (λ y. partition_of s y == p) (rows join s acc) (passing (rows join s acc) has)
      where
        passing : (xs : List R) → HasOne xs r → SomeOf (λ y. (y ≡ r) × ((partition_of s y == p) ≡ true)) xs
        passing [] h = elim h [ ]
        passing (x ∷ xs) h = elim h [ inl is ↦ inl (is, eq-eqb (partition_of s x) p (ap (partition_of s) is ∙ e)) | inr there ↦ inr (passing xs there) ]

    partition_passes : (p : ℕ) (xs : List R) (r : R) → HasOne (rows_in s p xs) r → partition_of s r ≡ p
    partition_passes p [] r h = elim h [ ]
    partition_passes p (x ∷ xs) r h =
        elim (partition_of s x == p) as (λ b. (partition_of s x == p) ≡ b → HasOne (cond b (x ∷ rows_in s p xs) (rows_in s p xs)) r → partition_of s r ≡ p) [
          | true ↦ (λ e g. elim g [ inl is ↦ sym (ap (partition_of s) is) ∙ eqb-true (partition_of s x) p e | inr there ↦ partition_passes p xs r there ])
          | false ↦ (λ e g. partition_passes p xs r g)
        ] refl h

    module _ (p : ℕ) where
      abbrev of_p : List R
      of_p = rows_in s p acc

      of_p_proper : AllByRecursion (λ r. IsTrue (s.is_proper r)) of_p
      of_p_proper = all_filter (λ r. IsTrue (s.is_proper r)) (λ r. partition_of s r == p) acc proper

      pub up : (table : ℕ) (key : List ℕ) (r : R) → row_at join s of_p table key ≡ Some r → (row_at join s acc table key ≡ Some r) × (partition_of s r ≡ p)
      up table key r e =
          let found : find_row s table key (rows join s of_p) ≡ Some r = row_found laws of_p table key (All-from_recursion (λ r. IsTrue (s.is_proper r)) of_p of_p_proper) ∙ e in
          let has : HasOne (rows_in s p (rows join s acc)) r = subst (λ xs. HasOne xs r) (rows_of_partition laws acc p all) (found_some (is_at s table key) (rows join s of_p) r found) in
          (row_left laws acc proper (λ q. q == p) table key r e, partition_passes p (rows join s acc) r has)

      pub down : (table : ℕ) (key : List ℕ) (r : R) → row_at join s acc table key ≡ Some r → partition_of s r ≡ p → row_at join s of_p table key ≡ Some r
      down table key r e q =
          let there = row_there table key r e in
          let has : HasOne (rows join s of_p) r = subst (λ xs. HasOne xs r) (sym (rows_of_partition laws acc p all)) (in_partition p r there.0 q) in
          let at = all_has (λ r. row_at join s of_p (s.table r) (s.key r) ≡ Some r) (rows join s of_p) r (rows_found laws of_p of_p_proper) has in
          subst (λ t. row_at join s of_p t key ≡ Some r) there.2 (subst (λ j. row_at join s of_p (s.table r) j ≡ Some r) there.3 at)

  -- rows of a partition that are the same place by place are the same
  module _ (a b : List R) (proper_a : AllByRecursion (λ r. IsTrue (s.is_proper r)) a) (proper_b : AllByRecursion (λ r. IsTrue (s.is_proper r)) b) (p : ℕ)
      (there : (table : ℕ) (key : List ℕ) (r : R) → row_at join s a table key ≡ Some r → partition_of s r ≡ p → row_at join s b table key ≡ Some r)
      (back : (table : ℕ) (key : List ℕ) (r : R) → row_at join s b table key ≡ Some r → partition_of s r ≡ p → row_at join s a table key ≡ Some r) where
    one_place : (table : ℕ) (key : List ℕ) → row_at join s (rows_in s p a) table key ≡ row_at join s (rows_in s p b) table key
    one_place table key = by_row (row_at join s (rows_in s p a) table key) (row_at join s (rows_in s p b) table key) refl refl
      where
        by_row : (o q : Option R) → row_at join s (rows_in s p a) table key ≡ o → row_at join s (rows_in s p b) table key ≡ q → o ≡ q
        by_row None None e f = refl
        by_row (Some r) q e f =
            let u = up a proper_a p table key r e in
            sym (down b proper_b p table key r (there table key r u.0 u.1) u.1) ∙ f
        by_row None (Some r) e f =
            let u = up b proper_b p table key r f in
            sym e ∙ down a proper_a p table key r (back table key r u.0 u.1) u.1

    pub same_partitions : rows_in s p (rows join s a) ≡ rows_in s p (rows join s b)
    same_partitions =
        let of_a = of_p_proper a proper_a p in
        let of_b = of_p_proper b proper_b p in
        let all_a = All-from_recursion (λ r. IsTrue (s.is_proper r)) (rows_in s p a) of_a in
        let all_b = All-from_recursion (λ r. IsTrue (s.is_proper r)) (rows_in s p b) of_b in
        sym (rows_of_partition laws a p (All-from_recursion (λ r. IsTrue (s.is_proper r)) a proper_a))
        ∙ (same_rows s (rows join s (rows_in s p a)) (rows join s (rows_in s p b)) (rows_ascend laws (rows_in s p a) all_a) (rows_ascend laws (rows_in s p b) all_b)
        (λ table key. row_found laws (rows_in s p a) table key all_a ∙ (one_place table key ∙ sym (row_found laws (rows_in s p b) table key all_b)))
        ∙ rows_of_partition laws b p (All-from_recursion (λ r. IsTrue (s.is_proper r)) b proper_b))

  -- ---- rows that are filtered by their partitions

  filtered_in : (test : ℕ → Bool) (p : ℕ) (xs : List R) → rows_in s p (filter (λ r. test (partition_of s r)) xs) ≡ cond (test p) (rows_in s p xs) []
  filtered_in test p [] = by_none (test p)
    where
      by_none : (b : Bool) → ◌≡◌ {A = List R} [] (cond b [] [])
      by_none true = refl
      by_none false = refl
  filtered_in test p (x ∷ xs) = by_tests (filtered_in test p xs) (partition_of s x == p) (test (partition_of s x)) refl refl
    where
      by_tests : rows_in s p (filter (λ r. test (partition_of s r)) xs) ≡ cond (test p) (rows_in s p xs) [] → (b c : Bool) → (partition_of s x == p) ≡ b → test (partition_of s x) ≡ c →
          rows_in s p (cond c (x ∷ filter (λ r. test (partition_of s r)) xs) (filter (λ r. test (partition_of s r)) xs)) ≡ cond (test p) (cond b (x ∷ rows_in s p xs) (rows_in s p xs)) []
      by_tests rest true true e f =
          let at : test p ≡ true = ap test (sym (eqb-true (partition_of s x) p e)) ∙ f in
          ap (λ b. cond b (x ∷ rows_in s p (filter (λ r. test (partition_of s r)) xs)) (rows_in s p (filter (λ r. test (partition_of s r)) xs))) e
          ∙ (ap (λ ys. x ∷ ys) (rest ∙ ap (λ b. cond b (rows_in s p xs) []) at) ∙ sym (ap (λ b. cond b (x ∷ rows_in s p xs) []) at))
      by_tests rest true false e f =
          let at : test p ≡ false = ap test (sym (eqb-true (partition_of s x) p e)) ∙ f in
          rest ∙ (ap (λ b. cond b (rows_in s p xs) []) at ∙ sym (ap (λ b. cond b (x ∷ rows_in s p xs) []) at))
      by_tests rest false true e f = ap (λ b. cond b (x ∷ rows_in s p (filter (λ r. test (partition_of s r)) xs)) (rows_in s p (filter (λ r. test (partition_of s r)) xs))) e ∙ rest
      by_tests rest false false e f = rest

  pub filtered_rows : (test : ℕ → Bool) (acc : List R) (p : ℕ) → AllProper s acc → rows_in s p (rows join s (filter (λ r. test (partition_of s r)) acc)) ≡ cond (test p) (rows_in s p (rows join s acc)) []
  filtered_rows test acc p proper =
      ap (rows_in s p) (rows_filter laws (λ r. test (partition_of s r)) (λ a b same. ap (λ position. test (partition_at position)) (laws.one_position a b same)) acc proper)
      ∙ filtered_in test p (rows join s acc)

-- ---- rows of the older version

module _ {R : Type 0} {join : R → R → R} {s : Words R} (laws : Laws join s) {L : Type 0} (k : Layouts L) (l : L) (layout : IsLayout k 256 l) (accepted : ℕ → List R) (equal : AreEqual join s k l accepted) where
  -- a row that a node of its set has
  pub record IsOld (r : R) : Type 0 where
    pub proper : IsTrue (s.is_proper r)
    pub at : ℕ
    pub of_set : IsTrue (is_among at (set_of k l (partition_of s r)))
    pub there : row_at join s (accepted at) (s.table r) (s.key r) ≡ Some r

  proper_at : (n : ℕ) → AllByRecursion (λ r. IsTrue (s.is_proper r)) (accepted n)
  proper_at n = recursion_from_All (λ r. IsTrue (s.is_proper r)) (accepted n) (equal.proper n)

  low : (r : R) → IsTrue (s.is_proper r) → partition_of s r < 256
  low r proper = laws.partition_is_byte r proper

  -- all nodes of the set have it
  pub all_have : (r : R) → IsOld r → (n : ℕ) → IsTrue (is_among n (set_of k l (partition_of s r))) → row_at join s (accepted n) (s.table r) (s.key r) ≡ Some r
  all_have r old n here =
      let p = partition_of s r in
      one_row laws (s.table r) p (s.key r) (λ x proper e f. ap partition_at (laws.one_position x r (record { first_proper = proper; second_proper = old.proper; table = e; key = f })))
      (accepted n) (accepted old.at) (equal.proper n) (equal.proper old.at) (equal.same p n old.at (low r old.proper) here old.of_set)
      ∙ old.there

  -- at one place there is one
  pub one_old : (a b : R) → IsOld a → IsOld b → s.table a ≡ s.table b → s.key a ≡ s.key b → a ≡ b
  one_old a b old_a old_b e f =
      let same : s.position a ≡ s.position b = laws.one_position a b (record { first_proper = old_a.proper; second_proper = old_b.proper; table = e; key = f }) in
      let of_b : IsTrue (is_among old_b.at (set_of k l (partition_of s a))) = subst (λ position. IsTrue (is_among old_b.at (set_of k l (partition_at position)))) (sym same) old_b.of_set in
      let first = all_have a old_a old_b.at of_b in
      let second : row_at join s (accepted old_b.at) (s.table a) (s.key a) ≡ Some b =
      subst (λ t. row_at join s (accepted old_b.at) t (s.key a) ≡ Some b) (sym e) (subst (λ q. row_at join s (accepted old_b.at) (s.table b) q ≡ Some b) (sym f) old_b.there) in
      ap (λ o. unwrap_or o a) (sym first ∙ second)

  -- each node has old rows alone
  pub has_old : (n : ℕ) → HasGood join s IsOld (accepted n)
  has_old n = record {
    proper = proper_at n;
    each = λ table key r e.
        (let there = row_there laws (accepted n) (proper_at n) table key r e in (
          record {
            proper = there.1;
            at = n;
            of_set = by_test r there.1 there.0 (is_among n (set_of k l (partition_of s r))) refl;
            there = subst (λ t. row_at join s (accepted n) t (s.key r) ≡ Some r) (sym there.2) (subst (λ j. row_at join s (accepted n) table j ≡ Some r) (sym there.3) e);
          },
          there.2,
          there.3,
        ));
  }
    where
      by_test : (r : R) → IsTrue (s.is_proper r) → HasOne (rows join s (accepted n)) r → (b : Bool) → is_among n (set_of k l (partition_of s r)) ≡ b → is_among n (set_of k l (partition_of s r)) ≡ true
      by_test r proper has true e = e
      by_test r proper has false e =
          let none = equal.nobody (partition_of s r) n (low r proper) e in
          absurd (subst (λ xs. HasOne xs r) none (in_partition laws (accepted n) (proper_at n) (partition_of s r) r has refl))

  -- another node of the set than this one
  pub other_of_set : (p n : ℕ) → p < 256 → (b : ℕ) × IsTrue (is_among b (set_of k l p)) × (b ≢ n)
  other_of_set p n small =
      let three = three_at k l layout p small in
      let here : (j : ℕ) → IsTrue (is_among j (three.one ∷ three.two ∷ three.three ∷ [])) → IsTrue (is_among j (set_of k l p)) = λ j e. subst (λ set. IsTrue (is_among j set)) (sym three.are) e in
      elim (three.one == n) as (λ c. (three.one == n) ≡ c → (b : ℕ) × IsTrue (is_among b (set_of k l p)) × (b ≢ n)) [
        | true ↦ (λ e. (three.two, here three.two (among_there three.two three.one (three.two ∷ three.three ∷ []) (among_here three.two (three.three ∷ []))), (λ f. three.differ.0 (eqb-true three.one n e ∙ sym f))))
        | false ↦ (λ e. (three.one, here three.one (among_here three.one (three.two ∷ three.three ∷ [])), eqb-false three.one n e))
      ] refl
