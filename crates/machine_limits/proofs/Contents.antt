-- What a node's rows count: a row that is accepted adds no more than its bytes, the rows that it calls for among it; dropped partitions and rows add nothing; and the rows of different partitions count no more than all.
use Rattle.std.specs.Prelude.{◌≡◌, ◌≤◌, ◌+◌, ℕ, suc, Bool, true, false, not, ◌==◌, leb, cond, List, [], ◌∷◌, Option, Some, None, IsTrue, length, refl}
use Rattle.std.specs.List.{AllByRecursion, filter, find}
use Rattle.std.specs.Option.{unwrap_or}
use Rattle.std.specs.Ordering.{is_eq}
use Rattle.std.specs.declared.cmp.Ordering.{Ordering}
use Rattle.std.specs.declared.cmp.Ordering.TheVariants.{Less, Equal, Greater}
use Rattle.std.proofs.Common.{ap, sym, ◌∙◌, inl, inr, arith}
use Rattle.std.proofs.lemmas.Bool.{eqb-true, leb-true, le-leb}
use Rattle.std.proofs.lemmas.List.Elements.{All-from_recursion}
use Rattle.crdt_core.specs.Members.{Has}
use Rattle.crdt_core.specs.Order.{option_join}
use Rattle.crdt_core.proofs.Each.{all_weaker}
use Rattle.table_schema.specs.Words.{Words, partition_at, partition_of}
use Rattle.table_schema.specs.Laws.{Same}
use Rattle.table_model.specs.Rows.{place, place_cmp, row_cmp, is_at, AllProper, row_at, merged_in, rows, find_row, rows_in}
use Rattle.std.specs.Cmp.{tied_itself}
use Rattle.table_model.proofs.RowLaws.{place_total, Above, Ascends, above_lower, none_above, joins, rows_ascend, row_found, rows_filter}
use Rattle.cluster_machine.specs.Rows.{called_for}
use Rattle.machine_origins.proofs.Good.{Rules, IsGood, rows_good}
use Rattle.machine_limits.specs.Bounds.{AreBounded}
use Rattle.machine_limits.proofs.Totals.{total, total_filter, total_has}

pub find_has : {X : Type 0} (test : X → Bool) (xs : List X) (x : X) → find test xs ≡ Some x → Has xs x
find_has test [] x e = cc
find_has test (y ∷ xs) x e =
    elim (test y) as (λ b. cond b (Some y) (find test xs) ≡ Some x → Has (y ∷ xs) x) [
      | true ↦ (λ g. inl (ap (λ o. unwrap_or o x) g))
      | false ↦ (λ g. inr (find_has test xs x g))
    ] e

-- what merges hand on
pub rules_of : {R : Type 0} {join : R → R → R} {s : Words R} {P : R → Type 0} {weight : R → ℕ} → AreBounded join s P weight → Rules join s P
rules_of bounded = record { laws = bounded.laws; joined = bounded.joined; called_for = bounded.called_for }

-- what the rows of these contents count
abbrev pub load : {R : Type 0} → (R → R → R) → Words R → (R → ℕ) → List R → ℕ
load join s weight accepted = total weight (rows join s accepted)

module _ {R : Type 0} {join : R → R → R} {s : Words R} {P : R → Type 0} {weight : R → ℕ} (bounded : AreBounded join s P weight) where
  abbrev pub Good : R → Type 0
  Good = IsGood s P

  proper_of : (xs : List R) → AllByRecursion Good xs → AllProper s xs
  proper_of xs a = All-from_recursion (λ r. IsTrue (s.is_proper r)) xs (all_weaker Good (λ r. IsTrue (s.is_proper r)) (λ r g. g.proper) xs a)

  -- the rows that a row calls for where this one was
  abbrev calls : Option R → R → ℕ
  calls old r = length (called_for join s old (option_join join old (Some r)))

  abbrev Counts : R → List R → Type 0
  Counts r xs = total weight (merged_in join s r xs) + calls (find_row s (s.table r) (s.key r) xs) r ≤ total weight xs + weight r

  counts_by : (r x : R) (xs : List R) → Good r → Good x → Above s (place s x) xs → Counts r xs → (o : Ordering) → row_cmp s r x ≡ o → Counts r (x ∷ xs)
  counts_by r x xs p q a rest Less e =
      let m : merged_in join s r (x ∷ xs) ≡ r ∷ x ∷ xs = rw e refl in
      let f : find_row s (s.table r) (s.key r) (x ∷ xs) ≡ None = none_above s (s.table r) (s.key r) (x ∷ xs) (e, above_lower s (place s r) (place s x) xs e a) in
      let c : total weight (merged_in join s r (x ∷ xs)) ≡ weight r + (weight x + total weight xs) = ap (λ ys. total weight ys) m in
      let d : calls (find_row s (s.table r) (s.key r) (x ∷ xs)) r ≡ 0 = ap (λ o. calls o r) f in
      omega arith
  counts_by r x xs p q a rest Equal e =
      let m : merged_in join s r (x ∷ xs) ≡ join x r ∷ xs = rw e refl in
      let f : find_row s (s.table r) (s.key r) (x ∷ xs) ≡ Some x = rw e refl in
      let same : Same s x r = joins bounded.laws r x p.proper q.proper e in
      let c : total weight (merged_in join s r (x ∷ xs)) ≡ weight (join x r) + total weight xs = ap (λ ys. total weight ys) m in
      let d : calls (find_row s (s.table r) (s.key r) (x ∷ xs)) r ≡ length (s.triggered x (join x r)) = ap (λ o. calls o r) f in
      let g : weight (join x r) + length (s.triggered x (join x r)) ≤ weight x + weight r = bounded.merged x r same q.has p.has in
      omega arith
  counts_by r x xs p q a rest Greater e =
      let m : merged_in join s r (x ∷ xs) ≡ x ∷ merged_in join s r xs = rw e refl in
      let f : find_row s (s.table r) (s.key r) (x ∷ xs) ≡ find_row s (s.table r) (s.key r) xs = rw e refl in
      let c : total weight (merged_in join s r (x ∷ xs)) ≡ weight x + total weight (merged_in join s r xs) = ap (λ ys. total weight ys) m in
      let d : calls (find_row s (s.table r) (s.key r) (x ∷ xs)) r ≡ calls (find_row s (s.table r) (s.key r) xs) r = ap (λ o. calls o r) f in
      omega arith

  counts : (r : R) (xs : List R) → Good r → AllByRecursion Good xs → Ascends s xs → Counts r xs
  counts r [] p all a = omega arith
  counts r (x ∷ xs) p all a = counts_by r x xs p all.0 a.0 (counts r xs p all.1 a.1) (row_cmp s r x) refl

  pub row_after : (r : R) (older : List R) → option_join join (row_at join s older (s.table r) (s.key r)) (Some r) ≡ row_at join s (r ∷ older) (s.table r) (s.key r)
  row_after r older = rw (tied_itself place_total (place s r)) refl

  -- a row that is accepted
  pub accepted_counts : (r : R) (older : List R) → Good r → AllByRecursion Good older →
      load join s weight (r ∷ older) + length (called_for join s (row_at join s older (s.table r) (s.key r)) (row_at join s (r ∷ older) (s.table r) (s.key r))) ≤ load join s weight older + weight r
  accepted_counts r older p all =
      let c = counts r (rows join s older) p (rows_good (rules_of bounded) older all) (rows_ascend bounded.laws older (proper_of older all)) in
      let f = row_found bounded.laws older (s.table r) (s.key r) (proper_of older all) in
      let before = row_at join s older (s.table r) (s.key r) in
      let d : calls (find_row s (s.table r) (s.key r) (rows join s older)) r ≡ calls before r = ap (λ o. calls o r) f in
      let g : calls before r ≡ length (called_for join s before (row_at join s (r ∷ older) (s.table r) (s.key r))) = ap (λ o. length (called_for join s before o)) (row_after r older) in
      omega arith

  -- rows that are dropped, where those of one place go together
  kept_counts : (test : R → Bool) (accepted : List R) → ((a b : R) → Same s a b → test a ≡ test b) → AllByRecursion Good accepted → load join s weight (filter test accepted) ≤ load join s weight accepted
  kept_counts test accepted alike all =
      let is = rows_filter bounded.laws test alike accepted (proper_of accepted all) in
      let low = total_filter weight test (rows join s accepted) in
      let same : load join s weight (filter test accepted) ≡ total weight (filter test (rows join s accepted)) = ap (λ ys. total weight ys) is in
      omega arith

  -- partitions that are dropped
  pub dropped_counts : (stays : ℕ → Bool) (accepted : List R) → AllByRecursion Good accepted → load join s weight (filter (λ r. stays (partition_of s r)) accepted) ≤ load join s weight accepted
  dropped_counts stays accepted all = kept_counts (λ r. stays (partition_of s r)) accepted (λ a b same. ap (λ position. stays (partition_at position)) (bounded.laws.one_position a b same)) all

  -- a row that is dropped
  pub without_counts : (table : ℕ) (key : List ℕ) (accepted : List R) → AllByRecursion Good accepted → load join s weight (filter (λ r. not (is_at s table key r)) accepted) ≤ load join s weight accepted
  without_counts table key accepted all =
      kept_counts (λ r. not (is_at s table key r)) accepted (λ a b same. ap (λ (p : ℕ × List ℕ). not (is_eq (place_cmp (table, key) p))) (place_same a b same)) all
    where
      place_same : (a b : R) → Same s a b → place s a ≡ place s b
      place_same a b same = λ i. (same.table i, same.key i)

  -- a row that is there
  pub found_counts : (table : ℕ) (key : List ℕ) (accepted : List R) (r : R) → AllByRecursion Good accepted → row_at join s accepted table key ≡ Some r → weight r ≤ load join s weight accepted
  found_counts table key accepted r all e =
      total_has weight (rows join s accepted) r (find_has (is_at s table key) (rows join s accepted) r (row_found bounded.laws accepted table key (proper_of accepted all) ∙ e))

-- ---- the rows of partitions

-- the rows of partition p and later ones
abbrev pub from_part : {R : Type 0} → Words R → ℕ → List R → List R
from_part s p xs = filter (λ r. leb p (partition_of s r)) xs

one_part : (p q n w a b c : ℕ) → p ≤ q → a + b ≤ c → (s m l : Bool) → (n == q) ≡ s → leb (suc q) n ≡ m → leb p n ≡ l → cond s (w + a) a + cond m (w + b) b ≤ cond l (w + c) c
one_part p q n w a b c h k true true l e f g = let x : n ≡ q = eqb-true n q e in let y : suc q ≤ n = leb-true (suc q) n f in absurd (omega arith)
one_part p q n w a b c h k true false true e f g = omega arith
one_part p q n w a b c h k true false false e f g = let x : n ≡ q = eqb-true n q e in let low : p ≤ n = omega arith in let y : true ≡ false = sym (le-leb p n low) ∙ g in cc
one_part p q n w a b c h k false true true e f g = omega arith
one_part p q n w a b c h k false true false e f g = let y : suc q ≤ n = leb-true (suc q) n f in let low : p ≤ n = omega arith in let z : true ≡ false = sym (le-leb p n low) ∙ g in cc
one_part p q n w a b c h k false false true e f g = omega arith
one_part p q n w a b c h k false false false e f g = omega arith

module _ {R : Type 0} (s : Words R) (weight : R → ℕ) where
  pub part_counts : (p q : ℕ) (xs : List R) → p ≤ q → total weight (rows_in s q xs) + total weight (from_part s (suc q) xs) ≤ total weight (from_part s p xs)
  part_counts p q [] h = omega arith
  part_counts p q (x ∷ xs) h =
      let n = partition_of s x in
      let w = weight x in
      let rest = part_counts p q xs h in
      let push : (b : Bool) (ys : List R) → total weight (cond b (x ∷ ys) ys) ≡ cond b (w + total weight ys) (total weight ys) = (λ b ys. elim b as (λ c. total weight (cond c (x ∷ ys) ys) ≡ cond c (w + total weight ys) (total weight ys)) [ true ↦ refl | false ↦ refl ]) in
      let a = push (n == q) (rows_in s q xs) in
      let b = push (leb (suc q) n) (from_part s (suc q) xs) in
      let c = push (leb p n) (from_part s p xs) in
      let d = one_part p q n w (total weight (rows_in s q xs)) (total weight (from_part s (suc q) xs)) (total weight (from_part s p xs)) h rest (n == q) (leb (suc q) n) (leb p n) refl refl refl in
      omega arith

  pub all_parts_count : (xs : List R) → total weight (from_part s 0 xs) ≤ total weight xs
  all_parts_count xs = total_filter weight (λ r. leb 0 (partition_of s r)) xs
