-- How many rows need a block, when a row is merged in and when rows are dropped.
use Rattle.std.proofs.Common.{◌≡◌, ℕ, ◌+◌, Bool, true, false, not, cond, ◌&&◌, List, [], ◌∷◌, filter, Option, Some, None, refl, sym, ap, ◌∙◌, arith}
use Rattle.std.specs.Prelude.{count_by}
use Rattle.std.specs.List.{cons_option}
use Rattle.std.specs.declared.cmp.Ordering.{Ordering}
use Rattle.std.specs.declared.cmp.Ordering.TheVariants.{Less, Equal, Greater}
use Rattle.std.proofs.lemmas.List.Sums.{sum_by-cons}
use Rattle.crdt_core.specs.Order.{option_join}
use Rattle.table_schema.specs.Words.{Words}
use Rattle.table_schema.specs.Laws.{Laws}
use Rattle.table_model.specs.Rows.{AllProper, place, row_cmp, merged_in, rows, find_row, live_blocks}
use Rattle.table_model.proofs.RowLaws.{Above, Ascends, above_lower, none_above, rows_ascend}
use Rattle.cluster_machine.specs.Rows.{same_bytes, is_block, block_of, count_of}

-- 1 where the test passes
abbrev pub one : Bool → ℕ
one b = cond b 1 0

pub count_cons : {A : Type 0} (p : A → Bool) (x : A) (xs : List A) → count_by p (x ∷ xs) ≡ one (p x) + count_by p xs
count_cons p x xs = sum_by-cons (λ y. one (p y)) x xs

pub count_filter : {A : Type 0} (p k : A → Bool) (xs : List A) → count_by p (filter k xs) ≡ count_by (λ x. k x && p x) xs
count_filter p k [] = refl
count_filter p k (x ∷ xs) =
    elim (k x) as (λ b. count_by p (cond b (x ∷ filter k xs) (filter k xs)) ≡ one (b && p x) + count_by (λ y. k y && p y) xs) [
      | true ↦ count_cons p x (filter k xs) ∙ ap (λ n. one (p x) + n) (count_filter p k xs)
      | false ↦ omega (arith, count_filter p k xs)
    ] ∙ sym (count_cons (λ y. k y && p y) x xs)

-- those that pass a test and those that do not
pub count_both : {A : Type 0} (p k : A → Bool) (xs : List A) → count_by p (filter k xs) + count_by p (filter (λ x. not (k x)) xs) ≡ count_by p xs
count_both p k [] = refl
count_both p k (x ∷ xs) =
    elim (k x) as (λ b. count_by p (cond b (x ∷ filter k xs) (filter k xs)) + count_by p (cond (not b) (x ∷ filter (λ y. not (k y)) xs) (filter (λ y. not (k y)) xs)) ≡ count_by p (x ∷ xs)) [
      | true ↦ omega (arith, count_cons p x (filter k xs), count_cons p x xs, count_both p k xs)
      | false ↦ omega (arith, count_cons p x (filter (λ y. not (k y)) xs), count_cons p x xs, count_both p k xs)
    ]

module _ {R : Type 0} (join : R → R → R) (s : Words R) (hash : List ℕ) where
  -- the row needs the block of this hash
  abbrev pub needs : R → Bool
  needs r = is_block hash (s.live_block r)

  -- 1 where the row that is there needs the block
  abbrev pub need : Option R → ℕ
  need o = one (is_block hash (block_of join s o))

  count_by_order : (r x : R) (xs : List R) → Above s (place s x) xs →
      count_by needs (merged_in join s r xs) + need (find_row s (s.table r) (s.key r) xs) ≡ count_by needs xs + need (option_join join (find_row s (s.table r) (s.key r) xs) (Some r)) →
      (o : Ordering) → row_cmp s r x ≡ o →
      count_by needs (merged_in join s r (x ∷ xs)) + need (find_row s (s.table r) (s.key r) (x ∷ xs)) ≡ count_by needs (x ∷ xs) + need (option_join join (find_row s (s.table r) (s.key r) (x ∷ xs)) (Some r))
  count_by_order r x xs a rest Less e = rw (e, none_above s (s.table r) (s.key r) xs (above_lower s (place s r) (place s x) xs e a)) (omega (arith, count_cons needs r (x ∷ xs)))
  count_by_order r x xs a rest Equal e = rw e (omega (arith, count_cons needs (join x r) xs, count_cons needs x xs))
  count_by_order r x xs a rest Greater e = rw e (omega (arith, count_cons needs x (merged_in join s r xs), count_cons needs x xs, rest))

  count_merged : (r : R) (xs : List R) → Ascends s xs →
      count_by needs (merged_in join s r xs) + need (find_row s (s.table r) (s.key r) xs) ≡ count_by needs xs + need (option_join join (find_row s (s.table r) (s.key r) xs) (Some r))
  count_merged r [] a = omega (arith, count_cons needs r [])
  count_merged r (x ∷ xs) a = count_by_order r x xs a.0 (count_merged r xs a.1) (row_cmp s r x) refl

  count_live_by : (x : R) (xs : List R) → count_by (same_bytes hash) (live_blocks s xs) ≡ count_by needs xs → (o : Option (List ℕ)) → s.live_block x ≡ o → count_by (same_bytes hash) (live_blocks s (x ∷ xs)) ≡ count_by needs (x ∷ xs)
  count_live_by x xs rest None e =
      let here : one (needs x) ≡ 0 = ap (λ b. one (is_block hash b)) e in
      ap (λ o. count_by (same_bytes hash) (cons_option o (live_blocks s xs))) e ∙ omega (arith, rest, here, count_cons needs x xs)
  count_live_by x xs rest (Some other) e =
      let here : one (needs x) ≡ one (same_bytes hash other) = ap (λ b. one (is_block hash b)) e in
      ap (λ o. count_by (same_bytes hash) (cons_option o (live_blocks s xs))) e
      ∙ omega (arith, rest, here, count_cons needs x xs, count_cons (same_bytes hash) other (live_blocks s xs))

  -- of the hashes that rows need, as many are this one as rows need it
  pub count_live : (xs : List R) → count_by (same_bytes hash) (live_blocks s xs) ≡ count_by needs xs
  count_live [] = refl
  count_live (x ∷ xs) = count_live_by x xs (count_live xs) (s.live_block x) refl

-- what a row that is accepted makes of a count
pub count_accepted : {R : Type 0} {join : R → R → R} {s : Words R} (laws : Laws join s) (hash : List ℕ) (older : List R) (r : R) → AllProper s older →
    count_of join s (r ∷ older) hash + need join s hash (find_row s (s.table r) (s.key r) (rows join s older)) ≡ count_of join s older hash + need join s hash (option_join join (find_row s (s.table r) (s.key r) (rows join s older)) (Some r))
count_accepted {R} {join} {s} laws hash older r all = count_merged join s hash r (rows join s older) (rows_ascend laws older all)
