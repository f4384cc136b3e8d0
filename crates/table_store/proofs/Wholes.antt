-- Three shelves as one table: what a call on the shelves gives for the table.
use Rattle.std.specs.Prelude.{◌≡◌, ◌⊎◌, ℕ, ◌==◌, ◌<◌, ◌||◌, Bool, true, false, cond, is_none, IsTrue, All, Result, Ok, Err, IfErr, IsErrAnd, List, [], ◌∷◌, ◌++◌, Vec, filter, refl}
use Rattle.std.proofs.Common.{ap, sym, ◌∙◌, inl, inr, arith}
use Rattle.crdt_core.specs.declared.memory.Memory.{Memory}
use Rattle.crdt_core.specs.declared.memory.Memory.TheVariants.{Want, Full}
use Rattle.std.specs.List.{list_any}
use Rattle.std.proofs.lemmas.Bool.{eq-eqb, both_ways}
use Rattle.std.proofs.lemmas.List.Elements.{All-append, All-nil, All-head, All-map, All-tail, All-weaker, All-filter, filter-append}
use Rattle.table_schema.specs.Words.{Words, partition_of}
use Rattle.table_model.specs.Rows.{rows_in}
use Rattle.table_model.specs.Top.{any_unspelled}
use Rattle.walk_model.specs.Noting.{has_table}
use Rattle.table_store.specs.declared.shelf.Placed.{Placed}
use Rattle.table_store.specs.declared.shelf.Shelf.{Shelf}
use Rattle.table_store.specs.Whole.{rows_at, rows_of_all}
use Rattle.table_store.specs.Shelf.{shelf_rows, in_partition, IsPlaced, AllPlaced, IsSound}
use Rattle.table_store.proofs.Tables.{rows_three}

-- the same entries are as sound
pub sound_same : {R Z : Type 0} (s : Words R) (first second third a b c : List (Vec ℕ Z × Placed R)) → a ≡ first → b ≡ second → c ≡ third → IsSound s first second third → IsSound s a b c
sound_same s first second third a b c x y z sound = rw (x, y, z) sound

pub sound_none : {R Z : Type 0} (s : Words R) → IsSound {R = R} {Z = Z} s [] [] []
sound_none s = record {
  in_first = All-nil (IsPlaced s 1);
  in_second = All-nil (IsPlaced s 2);
  in_third = All-nil (IsPlaced s 3);
  fits = omega arith;
}

any_append : {X : Type 0} (test : X → Bool) (xs ys : List X) → list_any test (xs ++ ys) ≡ (list_any test xs || list_any test ys)
any_append test [] ys = refl
any_append test (x ∷ xs) ys = elim (test x) as (λ b. (b || list_any test (xs ++ ys)) ≡ ((b || list_any test xs) || list_any test ys)) [ true ↦ refl | false ↦ any_append test xs ys ]

or_false : (b : Bool) → (b || false) ≡ b
or_false true = refl
or_false false = refl

module _ {R Z : Type 0} (s : Words R) (n : ℕ) where
  any_here : (es : List (Vec ℕ Z × Placed R)) → AllPlaced s n es → has_table s n (shelf_rows es) ≡ list_any (λ e. true) es
  any_here [] all = refl
  any_here (e ∷ es) all =
      let placed = All-head (IsPlaced s n) e es all in
      ap (λ b. b || has_table s n (shelf_rows es)) (ap (λ t. t == n) placed.table_is ∙ eq-eqb n n refl)

  any_elsewhere : (m : ℕ) (es : List (Vec ℕ Z × Placed R)) → (n == m) ≡ false → AllPlaced s n es → has_table s m (shelf_rows es) ≡ false
  any_elsewhere m [] h all = refl
  any_elsewhere m (e ∷ es) h all =
      let placed = All-head (IsPlaced s n) e es all in
      (λ i. (ap (λ t. t == m) placed.table_is ∙ h) i || any_elsewhere m es h (All-tail (IsPlaced s n) e es all) i)

any_filter : {X : Type 0} (test : X → Bool) (xs : List X) → list_any (λ x. true) (filter test xs) ≡ list_any test xs
any_filter test [] = refl
any_filter test (x ∷ xs) = elim (test x) as (λ b. list_any (λ y. true) (cond b (x ∷ filter test xs) (filter test xs)) ≡ (b || list_any test xs)) [ true ↦ refl | false ↦ any_filter test xs ]

module _ {R Z : Type 0} (s : Words R) (first second third : List (Vec ℕ Z × Placed R)) (sound : IsSound s first second third) (p : ℕ) where
  in_first : AllPlaced s 1 (filter (in_partition p) first)
  in_first = All-filter (in_partition p) (IsPlaced s 1) first sound.in_first

  in_second : AllPlaced s 2 (filter (in_partition p) second)
  in_second = All-filter (in_partition p) (IsPlaced s 2) second sound.in_second

  in_third : AllPlaced s 3 (filter (in_partition p) third)
  in_third = All-filter (in_partition p) (IsPlaced s 3) third sound.in_third

  any_three : (m : ℕ) → has_table s m (rows_in s p (shelf_rows first ++ (shelf_rows second ++ shelf_rows third))) ≡
      (has_table s m (shelf_rows (filter (in_partition p) first)) || (has_table s m (shelf_rows (filter (in_partition p) second)) || has_table s m (shelf_rows (filter (in_partition p) third))))
  any_three m =
      ap (has_table s m) (rows_three s first second third sound.in_first sound.in_second sound.in_third p)
      ∙ (any_append (λ r. s.table r == m) (shelf_rows (filter (in_partition p) first)) (shelf_rows (filter (in_partition p) second) ++ shelf_rows (filter (in_partition p) third))
      ∙ ap (λ b. has_table s m (shelf_rows (filter (in_partition p) first)) || b) (any_append (λ r. s.table r == m) (shelf_rows (filter (in_partition p) second)) (shelf_rows (filter (in_partition p) third))))

  -- a table has rows of a partition where its shelf has
  pub has_first : list_any (in_partition p) first ≡ has_table s 1 (rows_in s p (shelf_rows first ++ (shelf_rows second ++ shelf_rows third)))
  has_first = sym (any_three 1 ∙ ((λ i. (any_here s 1 (filter (in_partition p) first) in_first ∙ any_filter (in_partition p) first) i || (any_elsewhere s 2 1 (filter (in_partition p) second) refl in_second i || any_elsewhere s 3 1 (filter (in_partition p) third) refl in_third i)) ∙ or_false (list_any (in_partition p) first)))

  pub has_second : list_any (in_partition p) second ≡ has_table s 2 (rows_in s p (shelf_rows first ++ (shelf_rows second ++ shelf_rows third)))
  has_second = sym (any_three 2 ∙ ((λ i. any_elsewhere s 1 2 (filter (in_partition p) first) refl in_first i || ((any_here s 2 (filter (in_partition p) second) in_second ∙ any_filter (in_partition p) second) i || any_elsewhere s 3 2 (filter (in_partition p) third) refl in_third i)) ∙ or_false (list_any (in_partition p) second)))

  pub has_third : list_any (in_partition p) third ≡ has_table s 3 (rows_in s p (shelf_rows first ++ (shelf_rows second ++ shelf_rows third)))
  has_third = sym (any_three 3 ∙ (λ i. any_elsewhere s 1 3 (filter (in_partition p) first) refl in_first i || (any_elsewhere s 2 3 (filter (in_partition p) second) refl in_second i || (any_here s 3 (filter (in_partition p) third) in_third ∙ any_filter (in_partition p) third) i)))

  pub has_none : (m : ℕ) → (1 == m) ≡ false → (2 == m) ≡ false → (3 == m) ≡ false → false ≡ has_table s m (rows_in s p (shelf_rows first ++ (shelf_rows second ++ shelf_rows third)))
  has_none m x y z = sym (any_three m ∙ (λ i. any_elsewhere s 1 m (filter (in_partition p) first) x in_first i || (any_elsewhere s 2 m (filter (in_partition p) second) y in_second i || any_elsewhere s 3 m (filter (in_partition p) third) z in_third i)))

  -- what passes a test among the rows of a partition
  pub filter_rows : (test : R → Bool) → filter test (shelf_rows (filter (in_partition p) first)) ++ (filter test (shelf_rows (filter (in_partition p) second)) ++ filter test (shelf_rows (filter (in_partition p) third))) ≡ filter test (rows_in s p (shelf_rows first ++ (shelf_rows second ++ shelf_rows third)))
  filter_rows test =
      sym (ap (filter test) (rows_three s first second third sound.in_first sound.in_second sound.in_third p)
      ∙ (filter-append test (shelf_rows (filter (in_partition p) first)) (shelf_rows (filter (in_partition p) second) ++ shelf_rows (filter (in_partition p) third))
      ∙ ap (λ l. filter test (shelf_rows (filter (in_partition p) first)) ++ l) (filter-append test (shelf_rows (filter (in_partition p) second)) (shelf_rows (filter (in_partition p) third)))))

-- ---- an error that is handed on

pub passed_on : {T P Q : Type 0} (r : Result T Memory) (e : Memory) → IsErrAnd r (λ y. y ≡ e) → (e ≡ Want) ⊎ ((e ≡ Full) × Q) → (Q → P) → IfErr r (λ y. (y ≡ Want) ⊎ ((y ≡ Full) × P))
passed_on (Ok x) e h cause f = absurd h
passed_on (Err y) e h cause f = elim cause [ inl want ↦ inl (h ∙ want) | inr full ↦ inr (h ∙ full.0, f full.1) ]

-- ---- all partitions

or_parts_false : (a b : Bool) → (a || b) ≡ false → (a ≡ false) × (b ≡ false)
or_parts_false true b h = cc
or_parts_false false b h = (refl, h)

any_part_by : {X : Type 0} (test f : X → Bool) (x : X) (xs : List X) → (list_any test (filter f xs) ≡ true → list_any test xs ≡ true) → (b : Bool) → list_any test (cond b (x ∷ filter f xs) (filter f xs)) ≡ true → (t : Bool) → test x ≡ t → (t || list_any test xs) ≡ true
any_part_by test f x xs rest b h true is = refl
any_part_by test f x xs rest true h false is = rest (sym (ap (λ t. t || list_any test (filter f xs)) is) ∙ h)
any_part_by test f x xs rest false h false is = rest h

-- what is among some is among all
pub any_part : {X : Type 0} (test f : X → Bool) (xs : List X) → list_any test (filter f xs) ≡ true → list_any test xs ≡ true
any_part test f [] h = h
any_part test f (x ∷ xs) h = any_part_by test f x xs (any_part test f xs) (f x) h (test x) refl

module _ {R : Type 0} (s : Words R) (count : ℕ) where
  -- each partition below the count can be written
  abbrev pub AllWritten : List R → Type 0
  AllWritten rows = (q : ℕ) → q < count → any_unspelled s (rows_in s q rows) ≡ false

  tail_by : (q : ℕ) (r : R) (rows : List R) (b : Bool) → any_unspelled s (cond b (r ∷ rows_in s q rows) (rows_in s q rows)) ≡ false → any_unspelled s (rows_in s q rows) ≡ false
  tail_by q r rows true h = (or_parts_false (is_none (s.spelling r)) (any_unspelled s (rows_in s q rows)) h).1
  tail_by q r rows false h = h

  head_by : (r : R) (rows : List R) (b : Bool) → (partition_of s r == partition_of s r) ≡ b → any_unspelled s (cond b (r ∷ rows_in s (partition_of s r) rows) (rows_in s (partition_of s r) rows)) ≡ false → is_none (s.spelling r) ≡ false
  head_by r rows true is h = (or_parts_false (is_none (s.spelling r)) (any_unspelled s (rows_in s (partition_of s r) rows)) h).0
  head_by r rows false is h = absurd (both_ways (partition_of s r == partition_of s r) is (eq-eqb (partition_of s r) (partition_of s r) refl))

  -- where each row is of such a partition, each can be written
  pub written_all : (rows : List R) → All (λ r. partition_of s r < count) rows → AllWritten rows → any_unspelled s rows ≡ false
  written_all [] all written = refl
  written_all (r ∷ rows) all written =
      let here = All-head (λ x. partition_of s x < count) r rows all in
      λ i. head_by r rows (partition_of s r == partition_of s r) refl (written (partition_of s r) here) i
      || written_all rows (All-tail (λ x. partition_of s x < count) r rows all) (λ q h. tail_by q r rows (partition_of s r == q) (written q h)) i

-- the rows of a shelf are proper
proper_here : {R Z : Type 0} (s : Words R) (n : ℕ) (es : List (Vec ℕ Z × Placed R)) → AllPlaced s n es → All (λ r. IsTrue (s.is_proper r)) (shelf_rows es)
proper_here s n es all = All-map (λ r. IsTrue (s.is_proper r)) (λ e. e.1.row) es (All-weaker (IsPlaced s n) (λ e. IsTrue (s.is_proper e.1.row)) (λ e placed. placed.proper) es all)

pub proper_three : {R Z : Type 0} (s : Words R) (first second third : List (Vec ℕ Z × Placed R)) → IsSound s first second third → All (λ r. IsTrue (s.is_proper r)) (shelf_rows first ++ (shelf_rows second ++ shelf_rows third))
proper_three {R} s first second third sound =
    let P : R → Type 0 = λ r. IsTrue (s.is_proper r) in
    All-append P (shelf_rows first) (shelf_rows second ++ shelf_rows third) (proper_here s 1 first sound.in_first)
    (All-append P (shelf_rows second) (shelf_rows third) (proper_here s 2 second sound.in_second) (proper_here s 3 third sound.in_third))

-- the rows of a partition, by shelves
pub part_three : {R : Type 0} (s : Words R) (first second third : Shelf R) (rows : List R) (p : ℕ) → IsSound s first.rows.entries second.rows.entries third.rows.entries → rows_of_all first second third ≡ rows →
    any_unspelled s (rows_at p first ++ (rows_at p second ++ rows_at p third)) ≡ any_unspelled s (rows_in s p rows)
part_three s first second third rows p sound view =
    ap (any_unspelled s) (sym (rows_three s first.rows.entries second.rows.entries third.rows.entries sound.in_first sound.in_second sound.in_third p) ∙ ap (rows_in s p) view)
