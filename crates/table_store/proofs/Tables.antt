-- The three shelves of a table as one list of rows.
use Rattle.std.specs.Prelude.{◌≡◌, ℕ, ◌+◌, ◌^◌, ◌<◌, ◌≤◌, ◌==◌, Bool, true, false, cond, not, List, [], ◌∷◌, ◌++◌, Option, Some, None, Vec, length, filter, find, refl}
use Rattle.std.proofs.Common.{ap, sym, ◌∙◌, append_assoc, append-nil, arith}
use Rattle.std.proofs.lemmas.Bool.{ne_eqb, le-ltb}
use Rattle.std.proofs.lemmas.List.{take_all}
use Rattle.std.proofs.lemmas.List.Filters.{length-filter_both}
use Rattle.std.proofs.lemmas.List.Elements.{All-nil, All-cons, All-head, All-tail, filter-append, filter_map-append}
use Rattle.std.specs.declared.cmp.Ordering.{Ordering}
use Rattle.std.specs.declared.cmp.Ordering.TheVariants.{Less, Equal, Greater}
use Rattle.std.specs.Ordering.{nat_cmp, is_eq, ordering_then}
use Rattle.std.specs.Cmp.Lexicographic.{slice_cmp}
use Rattle.std.proofs.lemmas.Cmp.{nat_cmp_total, tied_itself}
use Rattle.table_schema.specs.Words.{Words, partition_of}
use Rattle.table_model.specs.Rows.{row_cmp, place, place_cmp, is_at, merged_in, find_row, is_past, range, rows_in, without, live_blocks}
use Rattle.table_model.proofs.RowLaws.{Above}
use Rattle.table_store.specs.declared.shelf.Placed.{Placed}
use Rattle.table_store.specs.Shelf.{shelf_rows, shelf_find, in_partition, is_after, window, IsPlaced, AllPlaced, IsSound, others_at}
use Rattle.table_store.proofs.Shelves.{found_here, found_elsewhere, partition_here, partition_gone, past_here, past_elsewhere}

-- ---- lists

abbrev or_else : {X : Type 0} → Option X → Option X → Option X
or_else None b = b
or_else (Some a) b = Some a

or_else-none : {X : Type 0} (a : Option X) → or_else a None ≡ a
or_else-none None = refl
or_else-none (Some a) = refl

find_append : {X : Type 0} (p : X → Bool) (xs ys : List X) → find p (xs ++ ys) ≡ or_else (find p xs) (find p ys)
find_append p [] ys = refl
find_append p (x ∷ xs) ys =
    elim (p x) as (λ b. cond b (Some x) (find p (xs ++ ys)) ≡ or_else (cond b (Some x) (find p xs)) (find p ys)) [ true ↦ refl | false ↦ find_append p xs ys ]

filter_three : {X : Type 0} (p : X → Bool) (xs ys zs : List X) → filter p (xs ++ (ys ++ zs)) ≡ filter p xs ++ (filter p ys ++ filter p zs)
filter_three p xs ys zs = filter-append p xs (ys ++ zs) ∙ ap (λ l. filter p xs ++ l) (filter-append p ys zs)

module _ {R Z : Type 0} (s : Words R) (first second third : List (Vec ℕ Z × Placed R)) (in-first : AllPlaced s 1 first) (in-second : AllPlaced s 2 second) (in-third : AllPlaced s 3 third) where
  find_three : (table : ℕ) (key : List ℕ) → find_row s table key (shelf_rows first ++ (shelf_rows second ++ shelf_rows third)) ≡ or_else (find_row s table key (shelf_rows first)) (or_else (find_row s table key (shelf_rows second)) (find_row s table key (shelf_rows third)))
  find_three table key =
      find_append (is_at s table key) (shelf_rows first) (shelf_rows second ++ shelf_rows third)
      ∙ ap (or_else (find_row s table key (shelf_rows first))) (find_append (is_at s table key) (shelf_rows second) (shelf_rows third))

  -- the row of a table and key is in its table's shelf
  pub find_first : (key : List ℕ) → find_row s 1 key (shelf_rows first ++ (shelf_rows second ++ shelf_rows third)) ≡ shelf_find key first
  find_first key =
      find_three 1 key
      ∙ (λ i. or_else (found_here s 1 key first in-first i) (or_else (found_elsewhere s 2 1 key second refl in-second i) (found_elsewhere s 3 1 key third refl in-third i)))
      ∙ or_else-none (shelf_find key first)

  pub find_second : (key : List ℕ) → find_row s 2 key (shelf_rows first ++ (shelf_rows second ++ shelf_rows third)) ≡ shelf_find key second
  find_second key =
      find_three 2 key
      ∙ (λ i. or_else (found_elsewhere s 1 2 key first refl in-first i) (or_else (found_here s 2 key second in-second i) (found_elsewhere s 3 2 key third refl in-third i)))
      ∙ or_else-none (shelf_find key second)

  pub find_third : (key : List ℕ) → find_row s 3 key (shelf_rows first ++ (shelf_rows second ++ shelf_rows third)) ≡ shelf_find key third
  find_third key =
      find_three 3 key
      ∙ (λ i. or_else (found_elsewhere s 1 3 key first refl in-first i) (or_else (found_elsewhere s 2 3 key second refl in-second i) (found_here s 3 key third in-third i)))

  pub find_none : (table : ℕ) (key : List ℕ) → is_eq (nat_cmp table 1) ≡ false → is_eq (nat_cmp table 2) ≡ false → is_eq (nat_cmp table 3) ≡ false → find_row s table key (shelf_rows first ++ (shelf_rows second ++ shelf_rows third)) ≡ None
  find_none table key a b c =
      find_three table key
      ∙ (λ i. or_else (found_elsewhere s 1 table key first a in-first i) (or_else (found_elsewhere s 2 table key second b in-second i) (found_elsewhere s 3 table key third c in-third i)))

  -- ---- a partition

  pub rows_three : (p : ℕ) → rows_in s p (shelf_rows first ++ (shelf_rows second ++ shelf_rows third)) ≡ shelf_rows (filter (in_partition p) first) ++ (shelf_rows (filter (in_partition p) second) ++ shelf_rows (filter (in_partition p) third))
  rows_three p =
      filter_three (λ r. partition_of s r == p) (shelf_rows first) (shelf_rows second) (shelf_rows third)
      ∙ sym (λ i. partition_here s 1 p first in-first i ++ (partition_here s 2 p second in-second i ++ partition_here s 3 p third in-third i))

  pub without_three : (p : ℕ) → shelf_rows (filter (λ e. not (in_partition p e)) first) ++ (shelf_rows (filter (λ e. not (in_partition p e)) second) ++ shelf_rows (filter (λ e. not (in_partition p e)) third)) ≡ without s p (shelf_rows first ++ (shelf_rows second ++ shelf_rows third))
  without_three p =
      (λ i. partition_gone s 1 p first in-first i ++ (partition_gone s 2 p second in-second i ++ partition_gone s 3 p third in-third i))
      ∙ sym (filter_three (λ r. not (partition_of s r == p)) (shelf_rows first) (shelf_rows second) (shelf_rows third))

  -- ---- a window

  pub past_first : (prefix after : List ℕ) → shelf_rows (filter (is_after prefix after) first) ≡ filter (is_past s 1 prefix after) (shelf_rows first ++ (shelf_rows second ++ shelf_rows third))
  past_first prefix after =
      sym (filter_three (is_past s 1 prefix after) (shelf_rows first) (shelf_rows second) (shelf_rows third)
      ∙ ((λ i. sym (past_here s 1 prefix after first in-first) i ++ (past_elsewhere s 2 prefix after 1 second refl in-second i ++ past_elsewhere s 3 prefix after 1 third refl in-third i))
      ∙ append-nil (shelf_rows (filter (is_after prefix after) first))))

  pub past_second : (prefix after : List ℕ) → shelf_rows (filter (is_after prefix after) second) ≡ filter (is_past s 2 prefix after) (shelf_rows first ++ (shelf_rows second ++ shelf_rows third))
  past_second prefix after =
      sym (filter_three (is_past s 2 prefix after) (shelf_rows first) (shelf_rows second) (shelf_rows third)
      ∙ ((λ i. past_elsewhere s 1 prefix after 2 first refl in-first i ++ (sym (past_here s 2 prefix after second in-second) i ++ past_elsewhere s 3 prefix after 2 third refl in-third i))
      ∙ append-nil (shelf_rows (filter (is_after prefix after) second))))

  pub past_third : (prefix after : List ℕ) → shelf_rows (filter (is_after prefix after) third) ≡ filter (is_past s 3 prefix after) (shelf_rows first ++ (shelf_rows second ++ shelf_rows third))
  past_third prefix after =
      sym (filter_three (is_past s 3 prefix after) (shelf_rows first) (shelf_rows second) (shelf_rows third)
      ∙ (λ i. past_elsewhere s 1 prefix after 3 first refl in-first i ++ (past_elsewhere s 2 prefix after 3 second refl in-second i ++ sym (past_here s 3 prefix after third in-third) i)))

  past_none : (table : ℕ) (prefix after : List ℕ) → (1 == table) ≡ false → (2 == table) ≡ false → (3 == table) ≡ false → filter (is_past s table prefix after) (shelf_rows first ++ (shelf_rows second ++ shelf_rows third)) ≡ []
  past_none table prefix after a b c =
      filter_three (is_past s table prefix after) (shelf_rows first) (shelf_rows second) (shelf_rows third)
      ∙ (λ i. past_elsewhere s 1 prefix after table first a in-first i ++ (past_elsewhere s 2 prefix after table second b in-second i ++ past_elsewhere s 3 prefix after table third c in-third i))

  pub range_none : (table : ℕ) (prefix after : List ℕ) (limit : ℕ) → (table ≡ 1 → ⊥) → (table ≡ 2 → ⊥) → (table ≡ 3 → ⊥) → range s table prefix after limit (shelf_rows first ++ (shelf_rows second ++ shelf_rows third)) ≡ ([], false)
  range_none table prefix after limit a b c =
      let none = past_none table prefix after (ne_eqb 1 table (λ h. a (sym h))) (ne_eqb 2 table (λ h. b (sym h))) (ne_eqb 3 table (λ h. c (sym h))) in
      ap (window limit) none ∙ (λ i. (take_all limit [] (omega arith) i, le-ltb limit 0 (omega arith) i))

-- ---- without a partition

module _ {R Z : Type 0} (s : Words R) (n : ℕ) where
  kept_by : (p : ℕ) (e : Vec ℕ Z × Placed R) (rest : List (Vec ℕ Z × Placed R)) → IsPlaced s n e → AllPlaced s n rest → (b : Bool) → AllPlaced s n (cond (not b) (e ∷ rest) rest)
  kept_by p e rest placed all true = all
  kept_by p e rest placed all false = All-cons (IsPlaced s n) e rest placed all

  pub dropped_placed : (p : ℕ) (es : List (Vec ℕ Z × Placed R)) → AllPlaced s n es → AllPlaced s n (filter (λ e. not (in_partition p e)) es)
  dropped_placed p [] all = All-nil (IsPlaced s n)
  dropped_placed p (e ∷ es) all =
      kept_by p e (filter (λ d. not (in_partition p d)) es) (All-head (IsPlaced s n) e es all) (dropped_placed p es (All-tail (IsPlaced s n) e es all)) (in_partition p e)

module _ {R Z : Type 0} (s : Words R) (first second third : List (Vec ℕ Z × Placed R)) (sound : IsSound s first second third) where
  pub sound_without : (p : ℕ) → IsSound s (filter (λ e. not (in_partition p e)) first) (filter (λ e. not (in_partition p e)) second) (filter (λ e. not (in_partition p e)) third)
  sound_without p = record {
    in_first = dropped_placed s 1 p first sound.in_first;
    in_second = dropped_placed s 2 p second sound.in_second;
    in_third = dropped_placed s 3 p third sound.in_third;
    fits =
        let rows = shelf_rows first ++ (shelf_rows second ++ shelf_rows third) in
        let fewer = length-filter_both (λ r. partition_of s r == p) (λ r. not (partition_of s r == p)) (λ _. refl) rows in
        let was = sound.fits in
        rw (without_three s first second third sound.in_first sound.in_second sound.in_third p) (omega arith);
  }

  pub blocks_three : (p : ℕ) → (live_blocks s (shelf_rows (filter (in_partition p) first)) ++ live_blocks s (shelf_rows (filter (in_partition p) second))) ++ live_blocks s (shelf_rows (filter (in_partition p) third)) ≡ live_blocks s (rows_in s p (shelf_rows first ++ (shelf_rows second ++ shelf_rows third)))
  blocks_three p =
      let a = shelf_rows (filter (in_partition p) first) in
      let b = shelf_rows (filter (in_partition p) second) in
      let c = shelf_rows (filter (in_partition p) third) in
      append_assoc (live_blocks s a) (live_blocks s b) (live_blocks s c)
      ∙ (ap (λ l. live_blocks s a ++ l) (sym (filter_map-append s.live_block b c))
      ∙ (sym (filter_map-append s.live_block a (b ++ c))
      ∙ ap (live_blocks s) (sym (rows_three s first second third sound.in_first sound.in_second sound.in_third p))))

-- ---- without the row of a table and key

module _ {R : Type 0} (s : Words R) (n : ℕ) where
  other_table : (m : ℕ) (key : List ℕ) (r : R) → is_eq (nat_cmp m n) ≡ false → s.table r ≡ n → is_at s m key r ≡ false
  other_table m key r apart is = ap (λ t. is_eq (ordering_then (nat_cmp m t) (slice_cmp nat_cmp key (s.key r)))) is ∙ then_apart (nat_cmp m n) apart
    where
      then_apart : (o : Ordering) → is_eq o ≡ false → is_eq (ordering_then o (slice_cmp nat_cmp key (s.key r))) ≡ false
      then_apart Less h = refl
      then_apart Equal h = cc
      then_apart Greater h = refl

module _ {R Z : Type 0} (s : Words R) (n : ℕ) where
  row_here : (key : List ℕ) (e : Vec ℕ Z × Placed R) → IsPlaced s n e → is_at s n key e.1.row ≡ is_eq (slice_cmp nat_cmp key e.0.items)
  row_here key e placed = (λ i. is_eq (place_cmp (n, key) (placed.table_is i, sym placed.key_is i))) ∙ ap (λ o. is_eq (ordering_then o (slice_cmp nat_cmp key e.0.items))) (tied_itself nat_cmp_total n)

  -- of the shelf of the table the row at the key goes
  pub gone_here : (key : List ℕ) (es : List (Vec ℕ Z × Placed R)) → AllPlaced s n es → shelf_rows (filter (λ e. not (is_eq (slice_cmp nat_cmp key e.0.items))) es) ≡ filter (λ r. not (is_at s n key r)) (shelf_rows es)
  gone_here key [] all = refl
  gone_here key (e ∷ es) all =
      let here = row_here key e (All-head (IsPlaced s n) e es all) in
      let rest = gone_here key es (All-tail (IsPlaced s n) e es all) in
      ap (λ b. shelf_rows (cond (not b) (e ∷ filter (λ d. not (is_eq (slice_cmp nat_cmp key d.0.items))) es) (filter (λ d. not (is_eq (slice_cmp nat_cmp key d.0.items))) es))) (sym here)
      ∙ elim (is_at s n key e.1.row) as (λ b. shelf_rows (cond (not b) (e ∷ filter (λ d. not (is_eq (slice_cmp nat_cmp key d.0.items))) es) (filter (λ d. not (is_eq (slice_cmp nat_cmp key d.0.items))) es)) ≡ cond (not b) (e.1.row ∷ filter (λ r. not (is_at s n key r)) (shelf_rows es)) (filter (λ r. not (is_at s n key r)) (shelf_rows es))) [
        | true ↦ rest
        | false ↦ ap (λ l. e.1.row ∷ l) rest
      ]

  -- of the others none does
  pub stay_elsewhere : (m : ℕ) (key : List ℕ) (es : List (Vec ℕ Z × Placed R)) → is_eq (nat_cmp m n) ≡ false → AllPlaced s n es → filter (λ r. not (is_at s m key r)) (shelf_rows es) ≡ shelf_rows es
  stay_elsewhere m key [] apart all = refl
  stay_elsewhere m key (e ∷ es) apart all =
      let placed = All-head (IsPlaced s n) e es all in
      ap (λ b. cond (not b) (e.1.row ∷ filter (λ r. not (is_at s m key r)) (shelf_rows es)) (filter (λ r. not (is_at s m key r)) (shelf_rows es))) (other_table s n m key e.1.row apart placed.table_is)
      ∙ ap (λ l. e.1.row ∷ l) (stay_elsewhere m key es apart (All-tail (IsPlaced s n) e es all))

  pub gone_placed : (key : List ℕ) (es : List (Vec ℕ Z × Placed R)) → AllPlaced s n es → AllPlaced s n (filter (λ e. not (is_eq (slice_cmp nat_cmp key e.0.items))) es)
  gone_placed key [] all = All-nil (IsPlaced s n)
  gone_placed key (e ∷ es) all =
      let rest = gone_placed key es (All-tail (IsPlaced s n) e es all) in
      elim (is_eq (slice_cmp nat_cmp key e.0.items)) as (λ b. AllPlaced s n (cond (not b) (e ∷ filter (λ d. not (is_eq (slice_cmp nat_cmp key d.0.items))) es) (filter (λ d. not (is_eq (slice_cmp nat_cmp key d.0.items))) es))) [
        | true ↦ rest
        | false ↦ All-cons (IsPlaced s n) e (filter (λ d. not (is_eq (slice_cmp nat_cmp key d.0.items))) es) (All-head (IsPlaced s n) e es all) rest
      ]

module _ {R Z : Type 0} (s : Words R) (key : List ℕ) (first second third : List (Vec ℕ Z × Placed R)) (sound : IsSound s first second third) where
  pub rows_first : shelf_rows (others_at key first) ++ (shelf_rows second ++ shelf_rows third) ≡ filter (λ r. not (is_at s 1 key r)) (shelf_rows first ++ (shelf_rows second ++ shelf_rows third))
  rows_first =
      (λ i. gone_here s 1 key first sound.in_first i ++ (sym (stay_elsewhere s 2 1 key second refl sound.in_second) i ++ sym (stay_elsewhere s 3 1 key third refl sound.in_third) i))
      ∙ sym (filter_three (λ r. not (is_at s 1 key r)) (shelf_rows first) (shelf_rows second) (shelf_rows third))

  pub rows_second : shelf_rows first ++ (shelf_rows (others_at key second) ++ shelf_rows third) ≡ filter (λ r. not (is_at s 2 key r)) (shelf_rows first ++ (shelf_rows second ++ shelf_rows third))
  rows_second =
      (λ i. sym (stay_elsewhere s 1 2 key first refl sound.in_first) i ++ (gone_here s 2 key second sound.in_second i ++ sym (stay_elsewhere s 3 2 key third refl sound.in_third) i))
      ∙ sym (filter_three (λ r. not (is_at s 2 key r)) (shelf_rows first) (shelf_rows second) (shelf_rows third))

  pub rows_third : shelf_rows first ++ (shelf_rows second ++ shelf_rows (others_at key third)) ≡ filter (λ r. not (is_at s 3 key r)) (shelf_rows first ++ (shelf_rows second ++ shelf_rows third))
  rows_third =
      (λ i. sym (stay_elsewhere s 1 3 key first refl sound.in_first) i ++ (sym (stay_elsewhere s 2 3 key second refl sound.in_second) i ++ gone_here s 3 key third sound.in_third i))
      ∙ sym (filter_three (λ r. not (is_at s 3 key r)) (shelf_rows first) (shelf_rows second) (shelf_rows third))

  pub rows_none : (table : ℕ) → is_eq (nat_cmp table 1) ≡ false → is_eq (nat_cmp table 2) ≡ false → is_eq (nat_cmp table 3) ≡ false → shelf_rows first ++ (shelf_rows second ++ shelf_rows third) ≡ filter (λ r. not (is_at s table key r)) (shelf_rows first ++ (shelf_rows second ++ shelf_rows third))
  rows_none table a b c =
      (λ i. sym (stay_elsewhere s 1 table key first a sound.in_first) i ++ (sym (stay_elsewhere s 2 table key second b sound.in_second) i ++ sym (stay_elsewhere s 3 table key third c sound.in_third) i))
      ∙ sym (filter_three (λ r. not (is_at s table key r)) (shelf_rows first) (shelf_rows second) (shelf_rows third))

  fewer : (test : R → Bool) (rows new : List R) → new ≡ filter test rows → length rows < 2 ^ 64 → length new < 2 ^ 64
  fewer test rows new is few = let le = length-filter_both test (λ r. not (test r)) (λ _. refl) rows in rw is (omega arith)

  -- the invariant after a row went
  pub sound_first_left : IsSound s (others_at key first) second third
  sound_first_left = record {
    in_first = gone_placed s 1 key first sound.in_first;
    in_second = sound.in_second;
    in_third = sound.in_third;
    fits = fewer (λ r. not (is_at s 1 key r)) (shelf_rows first ++ (shelf_rows second ++ shelf_rows third)) (shelf_rows (others_at key first) ++ (shelf_rows second ++ shelf_rows third)) rows_first sound.fits;
  }

  pub sound_second_left : IsSound s first (others_at key second) third
  sound_second_left = record {
    in_first = sound.in_first;
    in_second = gone_placed s 2 key second sound.in_second;
    in_third = sound.in_third;
    fits = fewer (λ r. not (is_at s 2 key r)) (shelf_rows first ++ (shelf_rows second ++ shelf_rows third)) (shelf_rows first ++ (shelf_rows (others_at key second) ++ shelf_rows third)) rows_second sound.fits;
  }

  pub sound_third_left : IsSound s first second (others_at key third)
  sound_third_left = record {
    in_first = sound.in_first;
    in_second = sound.in_second;
    in_third = gone_placed s 3 key third sound.in_third;
    fits = fewer (λ r. not (is_at s 3 key r)) (shelf_rows first ++ (shelf_rows second ++ shelf_rows third)) (shelf_rows first ++ (shelf_rows second ++ shelf_rows (others_at key third))) rows_third sound.fits;
  }

-- ---- a row merged into one of three lists

module _ {R : Type 0} (join : R → R → R) (s : Words R) where
  longer_by : (r x : R) (xs : List R) → length (merged_in join s r xs) ≤ length xs + 1 → (o : Ordering) → row_cmp s r x ≡ o → length (merged_in join s r (x ∷ xs)) ≤ length (x ∷ xs) + 1
  longer_by r x xs h Less o = rw o (omega arith)
  longer_by r x xs h Equal o = rw o (omega arith)
  longer_by r x xs h Greater o = rw o (omega arith)

  pub longer : (r : R) (xs : List R) → length (merged_in join s r xs) ≤ length xs + 1
  longer r [] = omega arith
  longer r (x ∷ xs) = longer_by r x xs (longer r xs) (row_cmp s r x) refl

  first_of : (r : R) (ys : List R) → Above s (place s r) ys → merged_in join s r ys ≡ r ∷ ys
  first_of r [] a = refl
  first_of r (y ∷ ys) a = rw a.0 refl

  left_by : (r x : R) (xs ys : List R) → merged_in join s r (xs ++ ys) ≡ merged_in join s r xs ++ ys → (o : Ordering) → row_cmp s r x ≡ o → merged_in join s r (x ∷ (xs ++ ys)) ≡ merged_in join s r (x ∷ xs) ++ ys
  left_by r x xs ys h Less o = rw o refl
  left_by r x xs ys h Equal o = rw o refl
  left_by r x xs ys h Greater o = rw o (ap (λ l. x ∷ l) h)

  merged_left : (r : R) (xs ys : List R) → Above s (place s r) ys → merged_in join s r (xs ++ ys) ≡ merged_in join s r xs ++ ys
  merged_left r [] ys a = first_of r ys a
  merged_left r (x ∷ xs) ys a = left_by r x xs ys (merged_left r xs ys a) (row_cmp s r x) refl

  above_append : (k : ℕ × List ℕ) (xs ys : List R) → Above s k xs → Above s k ys → Above s k (xs ++ ys)
  above_append k [] ys a b = b
  above_append k (x ∷ xs) ys a b = (a.0, above_append k xs ys a.1 b)

  module _ {Z : Type 0} where
    -- the rows of a later table are above
    above_shelf : (r : R) (m n : ℕ) (es : List (Vec ℕ Z × Placed R)) → s.table r ≡ m → nat_cmp m n ≡ Less → AllPlaced s n es → Above s (place s r) (shelf_rows es)
    above_shelf r m n [] t h all = tt
    above_shelf r m n (e ∷ es) t h all =
        let placed = All-head (IsPlaced s n) e es all in
        (rw (t, placed.table_is, h) refl, above_shelf r m n es t h (All-tail (IsPlaced s n) e es all))

    -- a row is merged in after those of an earlier table
    merged_after : (r : R) (m n : ℕ) (es : List (Vec ℕ Z × Placed R)) (ys : List R) → s.table r ≡ m → nat_cmp m n ≡ Greater → AllPlaced s n es → merged_in join s r (shelf_rows es ++ ys) ≡ shelf_rows es ++ merged_in join s r ys
    merged_after r m n [] ys t h all = refl
    merged_after r m n (e ∷ es) ys t h all =
        let placed = All-head (IsPlaced s n) e es all in
        let after : row_cmp s r e.1.row ≡ Greater = rw (t, placed.table_is, h) refl in
        rw after (ap (λ l. e.1.row ∷ l) (merged_after r m n es ys t h (All-tail (IsPlaced s n) e es all)))

    module _ (first second third : List (Vec ℕ Z × Placed R)) (in-first : AllPlaced s 1 first) (in-second : AllPlaced s 2 second) (in-third : AllPlaced s 3 third) where
      pub merge_first : (r : R) (new : List R) → s.table r ≡ 1 → new ≡ merged_in join s r (shelf_rows first) → new ++ (shelf_rows second ++ shelf_rows third) ≡ merged_in join s r (shelf_rows first ++ (shelf_rows second ++ shelf_rows third))
      merge_first r new t h =
          ap (λ l. l ++ (shelf_rows second ++ shelf_rows third)) h
          ∙ sym (merged_left r (shelf_rows first) (shelf_rows second ++ shelf_rows third)
          (above_append (place s r) (shelf_rows second) (shelf_rows third) (above_shelf r 1 2 second t refl in-second) (above_shelf r 1 3 third t refl in-third)))

      pub merge_second : (r : R) (new : List R) → s.table r ≡ 2 → new ≡ merged_in join s r (shelf_rows second) → shelf_rows first ++ (new ++ shelf_rows third) ≡ merged_in join s r (shelf_rows first ++ (shelf_rows second ++ shelf_rows third))
      merge_second r new t h =
          ap (λ l. shelf_rows first ++ l) (ap (λ l. l ++ shelf_rows third) h ∙ sym (merged_left r (shelf_rows second) (shelf_rows third) (above_shelf r 2 3 third t refl in-third)))
          ∙ sym (merged_after r 2 1 first (shelf_rows second ++ shelf_rows third) t refl in-first)

      pub merge_third : (r : R) (new : List R) → s.table r ≡ 3 → new ≡ merged_in join s r (shelf_rows third) → shelf_rows first ++ (shelf_rows second ++ new) ≡ merged_in join s r (shelf_rows first ++ (shelf_rows second ++ shelf_rows third))
      merge_third r new t h =
          ap (λ l. shelf_rows first ++ (shelf_rows second ++ l)) h
          ∙ (ap (λ l. shelf_rows first ++ l) (sym (merged_after r 3 2 second (shelf_rows third) t refl in-second))
          ∙ sym (merged_after r 3 1 first (shelf_rows second ++ shelf_rows third) t refl in-first))

pub fits_after : {R : Type 0} (join : R → R → R) (s : Words R) (r : R) (xs new : List R) → new ≡ merged_in join s r xs → length xs + 1 < 2 ^ 64 → length new < 2 ^ 64
fits_after join s r xs new e h = let l = longer join s r xs in rw e (omega arith)

-- ---- the invariant after a merge

module _ {R Z : Type 0} (join : R → R → R) (s : Words R) (first second third : List (Vec ℕ Z × Placed R)) (sound : IsSound s first second third) (r : R) (new : List (Vec ℕ Z × Placed R)) (room : length (shelf_rows first ++ (shelf_rows second ++ shelf_rows third)) + 1 < 2 ^ 64) where
  pub sound_first : s.table r ≡ 1 → AllPlaced s 1 new → shelf_rows new ≡ merged_in join s r (shelf_rows first) → IsSound s new second third
  sound_first t placed h = record {
    in_first = placed;
    in_second = sound.in_second;
    in_third = sound.in_third;
    fits = fits_after join s r _ _ (merge_first join s first second third sound.in_first sound.in_second sound.in_third r (shelf_rows new) t h) room;
  }

  pub sound_second : s.table r ≡ 2 → AllPlaced s 2 new → shelf_rows new ≡ merged_in join s r (shelf_rows second) → IsSound s first new third
  sound_second t placed h = record {
    in_first = sound.in_first;
    in_second = placed;
    in_third = sound.in_third;
    fits = fits_after join s r _ _ (merge_second join s first second third sound.in_first sound.in_second sound.in_third r (shelf_rows new) t h) room;
  }

  pub sound_third : s.table r ≡ 3 → AllPlaced s 3 new → shelf_rows new ≡ merged_in join s r (shelf_rows third) → IsSound s first second new
  sound_third t placed h = record {
    in_first = sound.in_first;
    in_second = sound.in_second;
    in_third = placed;
    fits = fits_after join s r _ _ (merge_third join s first second third sound.in_first sound.in_second sound.in_third r (shelf_rows new) t h) room;
  }
