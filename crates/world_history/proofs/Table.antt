-- How many rows of a key stand before a place.
use Rattle.std.proofs.Common.{◌≡◌, ℕ, zero, suc, ◌+◌, ◌-◌, ◌<◌, ◌≤◌, Bool, true, false, ◌&&◌, Option, List, [], ◌∷◌, nat_eq, nat_lt, length, get_or, take, Ordering, refl, ap, sym, ◌∙◌, subst, arith, eq-eqb, ne_eqb}
use Rattle.std.specs.List.{sum_by}
use Rattle.std.specs.Ordering.{nat_cmp, ordering_then, is_lt, is_eq, eq_by_cmp, MatchOrdering}
use Rattle.std.specs.Cmp.{IsTotalOrder, ranks, nat_cmp_total, on_total, then_total, tied_itself}
use Rattle.std.specs.Cmp.Lexicographic.{slice_cmp, lists_ties, nat_list_cmp_total}
use Rattle.std.specs.List.Sorted.{IsSorted, IsPermutation, IsPartitionPoint, IsPartitionedBy}
use Rattle.std.specs.declared.cmp.Ordering.TheVariants.{Less, Equal, Greater}
use Rattle.std.proofs.lemmas.List.{take_all}
use Rattle.std.proofs.lemmas.List.Sums.{sum_by_more, sum_by-cons}
use Rattle.std.proofs.lemmas.List.Sorted.{sum_by-IsPermutation}
use Rattle.std.proofs.lemmas.Slice.Eq.{bytes_eq-Decides}
use Rattle.crdt_core.specs.LexLaws.{turned}
use Rattle.history_model.specs.Record.{same_bytes}
use Rattle.history_model.specs.Pairs.{sum_below}
use Rattle.world_history.specs.declared.rows.Row.{Row}
use Rattle.world_history.specs.Table.{row_cmp, sum_of, IsTableOf, is_before, is_of, one_if}
use Rattle.world_history.proofs.Sorted.{less_first, ties, first_not, second_not, lt_is}

pub row_total : IsTotalOrder row_cmp
row_total =
    then_total (on_total (λ (r : Row). r.bucket) nat_list_cmp_total)
    (then_total (on_total (λ (r : Row). r.key) nat_list_cmp_total) (on_total (λ (r : Row). r.place) nat_cmp_total))

-- what passes first, and then fails, is as many as stand before the point
module _ {X : Type 0} (p : X → Bool) (xs : List X) (i : ℕ) (le : i ≤ length xs) (d : X) (point : IsPartitionPoint (λ y. p y ≡ true) (λ y. p y ≡ false) xs i) where
  passed : (k : ℕ) → k ≤ i → sum_by (λ y. one_if (p y)) (take k xs) ≡ k
  passed zero h = refl
  passed (suc k) h =
      let inside : k < length xs = omega arith in
      let less : k ≤ i = omega arith in
      let first : 0 ≤ k = omega arith in
      let before : k < i = omega arith in
      let one : one_if (p (get_or xs k d)) ≡ 1 = ap one_if (point.0 k d first before) in
      let step = sum_by_more (λ y. one_if (p y)) xs k d inside in
      let rest = passed k less in
      let next : k + 1 ≡ suc k = omega arith in
      ap (λ n. sum_by (λ y. one_if (p y)) (take n xs)) (sym next) ∙ (step ∙ omega (arith, one, rest))

  failed : (m : ℕ) → i + m ≤ length xs → sum_by (λ y. one_if (p y)) (take (i + m) xs) ≡ i
  failed zero h = let same : i + 0 ≡ i = omega arith in let le2 : i ≤ i = omega arith in ap (λ n. sum_by (λ y. one_if (p y)) (take n xs)) same ∙ passed i le2
  failed (suc m) h =
      let inside : i + m < length xs = omega arith in
      let less : i + m ≤ length xs = omega arith in
      let after : i ≤ i + m = omega arith in
      let none : one_if (p (get_or xs (i + m) d)) ≡ 0 = ap one_if (point.1 (i + m) d after inside) in
      let step = sum_by_more (λ y. one_if (p y)) xs (i + m) d inside in
      let rest = failed m less in
      let next : i + m + 1 ≡ i + suc m = omega arith in
      ap (λ n. sum_by (λ y. one_if (p y)) (take n xs)) (sym next) ∙ (step ∙ omega (arith, none, rest))

  pub as_many_pass : sum_by (λ y. one_if (p y)) xs ≡ i
  as_many_pass =
      let rest : i + (length xs - i) ≤ length xs = omega arith in
      let all : i + (length xs - i) ≡ length xs = omega arith in
      let upto : length xs ≤ length xs = omega arith in
      ap (sum_by (λ y. one_if (p y))) (sym (take_all (length xs) xs upto)) ∙ (ap (λ n. sum_by (λ y. one_if (p y)) (take n xs)) (sym all) ∙ failed (length xs - i) rest)

-- a sum of sums
pub sum_by_both : {X : Type 0} (e f g : X → ℕ) → ((x : X) → e x ≡ f x + g x) → (xs : List X) → sum_by e xs ≡ sum_by f xs + sum_by g xs
sum_by_both e f g both [] = refl
sum_by_both e f g both (x ∷ xs) =
    let here = both x in
    let rest = sum_by_both e f g both xs in
    let p = sum_by-cons e x xs in
    let q = sum_by-cons f x xs in
    let r = sum_by-cons g x xs in
    omega (arith, here, rest, p, q, r)

nat_ties : (m n : ℕ) → nat_eq m n ≡ eq_by_cmp nat_cmp m n
nat_ties m n = by_order (nat_cmp m n) refl
  where
    by_order : (r : Ordering) → nat_cmp m n ≡ r → nat_eq m n ≡ is_eq r
    by_order Less e = let less : m < n = subst (λ s. MatchOrdering s (m < n) (m ≡ n) (n < m)) e (ranks m n) in ne_eqb m n (omega arith)
    by_order Equal e = eq-eqb m n (subst (λ s. MatchOrdering s (m < n) (m ≡ n) (n < m)) e (ranks m n))
    by_order Greater e = let more : n < m = subst (λ s. MatchOrdering s (m < n) (m ≡ n) (n < m)) e (ranks m n) in ne_eqb m n (omega arith)

-- by the answers of three comparisons
three : (a b before first : Ordering) → is_lt first ≡ false
    → one_if (is_lt (ordering_then a (ordering_then b before))) ≡ one_if (is_lt (ordering_then a (ordering_then b first))) + one_if (is_eq a && (is_eq b && is_lt before))
three Less b before first e = refl
three Greater b before first e = refl
three Equal Less before first e = refl
three Equal Greater before first e = refl
three Equal Equal before first e = let none : one_if (is_lt first) ≡ 0 = ap one_if e in omega (arith, none)

-- none stands before place 0
pub none_before : (m : ℕ) → is_lt (nat_cmp m 0) ≡ false
none_before m = by_order (nat_cmp m 0) refl
  where
    by_order : (r : Ordering) → nat_cmp m 0 ≡ r → is_lt r ≡ false
    by_order Less e = let less : m < 0 = subst (λ s. MatchOrdering s (m < 0) (m ≡ 0) (0 < m)) e (ranks m 0) in absurd (omega arith)
    by_order Equal e = refl
    by_order Greater e = refl

-- those before place t are those before place 0 and those of the key before place t
pub before_split : (bucket key : List ℕ) (t : ℕ) (r : Row) → one_if (is_before bucket key t r) ≡ one_if (is_before bucket key 0 r) + one_if (is_of bucket key t r)
before_split bucket key t r =
    three (slice_cmp nat_cmp r.bucket bucket) (slice_cmp nat_cmp r.key key) (nat_cmp r.place t) (nat_cmp r.place 0) (none_before r.place)
    ∙ (λ i. one_if (is_before bucket key 0 r) + one_if (same r.bucket bucket i && (same r.key key i && lt_is r.place t i)))
  where
    same : (xs ys : List ℕ) → is_eq (slice_cmp nat_cmp xs ys) ≡ same_bytes xs ys
    same xs ys = sym (lists_ties nat_cmp nat_ties xs ys)

-- the rows that stand before a place of a key come first
pub before_parts : (rows : List Row) → IsSorted row_cmp rows → (bucket key : List ℕ) (t : ℕ) → IsPartitionedBy (is_before bucket key t) rows
before_parts rows sorted bucket key t = less_first row_total rows sorted (record { bucket = bucket; key = key; place = t })

-- a row stands before a place of its own key if its place is less
pub own_before : (bucket key : List ℕ) (t : ℕ) (r : Row) → r.bucket ≡ bucket → r.key ≡ key → is_before bucket key t r ≡ nat_lt r.place t
own_before bucket key t r b k =
    (λ i. is_lt (ordering_then (slice_cmp nat_cmp (b i) bucket) (ordering_then (slice_cmp nat_cmp (k i) key) (nat_cmp r.place t))))
    ∙ ((λ i. is_lt (ordering_then (tied_itself nat_list_cmp_total bucket i) (ordering_then (tied_itself nat_list_cmp_total key i) (nat_cmp r.place t))))
    ∙ lt_is r.place t)

-- strings of bytes that tie are one
pub tied_bytes : (xs ys : List ℕ) → slice_cmp nat_cmp xs ys ≡ Equal → xs ≡ ys
tied_bytes xs ys e = (bytes_eq-Decides xs ys).0 (lists_ties nat_cmp nat_ties xs ys ∙ ap is_eq e)

-- what stands between two rows of a key is of that key
pub between : (a x c : Row) → is_lt (row_cmp x a) ≡ false → is_lt (row_cmp c x) ≡ false → c.bucket ≡ a.bucket → c.key ≡ a.key → (x.bucket ≡ a.bucket) × (x.key ≡ a.key)
between a x c xa cx b k = (tied_bytes x.bucket a.bucket bucket_ties, tied_bytes x.key a.key key_ties)
  where
    bucket_ties : slice_cmp nat_cmp x.bucket a.bucket ≡ Equal
    bucket_ties = ties nat_list_cmp_total x.bucket a.bucket (first_not _ _ xa) (subst (λ y. is_lt (slice_cmp nat_cmp y x.bucket) ≡ false) b (first_not _ _ cx))

    bucket_turned : slice_cmp nat_cmp c.bucket x.bucket ≡ Equal
    bucket_turned = subst (λ y. slice_cmp nat_cmp y x.bucket ≡ Equal) (sym b) (turned nat_list_cmp_total x.bucket a.bucket Equal bucket_ties)

    key_ties : slice_cmp nat_cmp x.key a.key ≡ Equal
    key_ties =
        ties nat_list_cmp_total x.key a.key (first_not _ _ (second_not _ _ xa bucket_ties))
        (subst (λ y. is_lt (slice_cmp nat_cmp y x.key) ≡ false) k (first_not _ _ (second_not _ _ cx bucket_turned)))

-- how many rows of the key stand before place t: those before it less those before place 0
pub counted : (rows : List Row) (bucket key : List ℕ) (t : ℕ) → sum_by (λ r. one_if (is_before bucket key t r)) rows ≡ sum_by (λ r. one_if (is_before bucket key 0 r)) rows + sum_by (λ r. one_if (is_of bucket key t r)) rows
counted rows bucket key t = sum_by_both _ _ _ (before_split bucket key t) rows

-- ---- how the rows are made

-- the rows of the places below n
abbrev pub AddedUp : (ℕ → Option Row) → ℕ → List Row → Type 0
AddedUp row_at n rows = (f : Row → ℕ) → sum_by f rows ≡ sum_below (λ b. sum_of f (row_at b)) n

pub added_sorted : (row_at : ℕ → Option Row) (n : ℕ) (xs ys : List Row) → AddedUp row_at n xs → IsPermutation xs ys → IsSorted row_cmp ys → IsTableOf row_at n ys
added_sorted row_at n xs ys t shuffled sorted = record { sorted = sorted; told = λ f. sum_by-IsPermutation f xs ys shuffled ∙ t f }
