-- How many key hashes begin with a prefix, and with each longer one by a byte.
use Rattle.std.specs.Prelude.{◌≡◌, ◌≤◌, ◌<◌, ◌+◌, ℕ, zero, suc, Bool, true, false, ◌==◌, ◌&&◌, cond, List, [], ◌∷◌, ◌++◌, length, filter, slice_index, refl}
use Rattle.std.specs.List.{range_with_len}
use Rattle.std.proofs.Common.{ap, ◌∙◌, inl, inr, arith, length-append}
use Rattle.std.proofs.lemmas.Bool.{eqb-true, ne_eqb, cases_lt}
use Rattle.crdt_core.specs.Members.{Has}
use Rattle.walk_model.proofs.Prefixes.{starts, starts_more, starts_long}
use Rattle.machine_limits.proofs.Totals.{total, total_same}
use Rattle.drain_limits.specs.Loads.{under}

-- 1 where a test is passed
abbrev pub one : Bool → ℕ
one b = cond b 1 0

pub total_sum : {X : Type 0} (f g : X → ℕ) (xs : List X) → total (λ x. f x + g x) xs ≡ total f xs + total g xs
total_sum f g [] = omega arith
total_sum f g (x ∷ xs) = let rest : total (λ x. f x + g x) xs ≡ total f xs + total g xs = total_sum f g xs in omega (arith, rest)

pub total_none : {X : Type 0} (xs : List X) → total (λ x. 0) xs ≡ 0
total_none [] = refl
total_none (x ∷ xs) = let rest = total_none xs in omega (arith, rest)

-- ---- bytes

-- what is before a row of numbers isn't among them
none_later : (x a n : ℕ) → x < a → total (λ b. one (x == b)) (range_with_len a n) ≡ 0
none_later x a zero low = refl
none_later x a (suc n) low =
    let other : (x == a) ≡ false = ne_eqb x a (λ e. omega (arith, e, low)) in
    let none : one (x == a) ≡ 0 = ap one other in
    let rest = none_later x (a + 1) n (omega (arith, low)) in
    omega (arith, none, rest)

-- at most one of them is a given one
one_at_most : (x a n : ℕ) → total (λ b. one (x == b)) (range_with_len a n) ≤ 1
one_at_most x a zero = omega arith
one_at_most x a (suc n) = by_test (x == a) refl (one_at_most x (a + 1) n)
  where
    by_test : (c : Bool) → (x == a) ≡ c → total (λ b. one (x == b)) (range_with_len (a + 1) n) ≤ 1 → one c + total (λ b. one (x == b)) (range_with_len (a + 1) n) ≤ 1
    by_test true e low = let same = eqb-true x a e in let rest = none_later x (a + 1) n (omega (arith, same)) in omega (arith, rest)
    by_test false e low = omega (arith, low)

-- ---- keys

-- a key begins with one of the longer prefixes at most, and only where it begins with this one
key_once : (key prefix : List ℕ) (a n : ℕ) → total (λ b. one (starts key (prefix ++ b ∷ []))) (range_with_len a n) ≤ one (starts key prefix)
key_once key prefix a n =
    elim (cases_lt (length prefix) (length key)) [
      | inl short ↦
          let same = total_same (λ (b : ℕ). one (starts key (prefix ++ b ∷ []))) (λ (b : ℕ). one (starts key prefix && (slice_index key (length prefix) == b))) (λ b. ap one (starts_more prefix key b short)) (range_with_len a n) in
          let low = by_test (starts key prefix) in
          omega (arith, same, low)
      | inr long ↦
          let same = total_same (λ (b : ℕ). one (starts key (prefix ++ b ∷ []))) (λ (b : ℕ). 0) (λ b. ap one (starts_long key (prefix ++ b ∷ []) (let len = length-append prefix (b ∷ []) in omega (arith, len, long)))) (range_with_len a n) in
          let none = total_none (range_with_len a n) in
          omega (arith, same, none)
    ]
  where
    by_test : (c : Bool) → total (λ b. one (c && (slice_index key (length prefix) == b))) (range_with_len a n) ≤ one c
    by_test true = one_at_most (slice_index key (length prefix)) a n
    by_test false = let none = total_none (range_with_len a n) in omega (arith, none)

under_more : (q key : List ℕ) (keys : List (List ℕ)) → under q (key ∷ keys) ≡ one (starts key q) + under q keys
under_more q key keys = elim (starts key q) as (λ b. length (cond b (key ∷ filter (λ x. starts x q) keys) (filter (λ x. starts x q) keys)) ≡ one b + under q keys) [ true ↦ omega arith | false ↦ omega arith ]

-- no more begin with the longer prefixes together than with this one
pub under_parts : (keys : List (List ℕ)) (prefix : List ℕ) (a n : ℕ) → total (λ b. under (prefix ++ b ∷ []) keys) (range_with_len a n) ≤ under prefix keys
under_parts [] prefix a n = let none = total_none (range_with_len a n) in omega (arith, none)
under_parts (key ∷ keys) prefix a n =
    let same = total_same (λ (b : ℕ). under (prefix ++ b ∷ []) (key ∷ keys)) (λ (b : ℕ). one (starts key (prefix ++ b ∷ [])) + under (prefix ++ b ∷ []) keys) (λ b. under_more (prefix ++ b ∷ []) key keys) (range_with_len a n) in
    let sum = total_sum (λ (b : ℕ). one (starts key (prefix ++ b ∷ []))) (λ (b : ℕ). under (prefix ++ b ∷ []) keys) (range_with_len a n) in
    let first = key_once key prefix a n in
    let rest = under_parts keys prefix a n in
    let here = under_more prefix key keys in
    omega (arith, same, sum, first, rest, here)

-- a key that is there and begins with it counts
pub has_under : (q key : List ℕ) (keys : List (List ℕ)) → Has keys key → starts key q ≡ true → 1 ≤ under q keys
has_under q key [] h e = elim h [ ]
has_under q key (other ∷ keys) (inl same) e =
    let more = under_more q other keys in
    let here : one (starts other q) ≡ 1 = ap (λ x. one (starts x q)) same ∙ ap one e in
    omega (arith, more, here)
has_under q key (other ∷ keys) (inr there) e =
    let more = under_more q other keys in
    let rest = has_under q key keys there e in
    omega (arith, more, rest)
