-- The pattern in pieces.
use Rattle.std.proofs.Common.{◌≡◌, ℕ, ◌+◌, ◌-◌, ◌*◌, ◌%◌, ◌<◌, ◌≤◌, List, [], ◌++◌, length, get_or, take, refl, sym, ◌∙◌, arith, inl, inr, length-append}
use Rattle.std.proofs.lemmas.Bool.{cases_lt}
use Rattle.std.proofs.lemmas.List.{same_lists, get_or_append_left, get_or-append_right}
use Rattle.std.proofs.lemmas.List.FromFn.{fill_by_all, length-map-range_with_len, get_or-map-range_with_len, take-map-range_with_len}
use Rattle.bench.specs.Pattern.{pattern}

pub length-pattern : (n : ℕ) → length (pattern n) ≡ n
unfolding pattern
length-pattern n = length-map-range_with_len (λ i. i % 251) 0 n

pub get_or-pattern : (n i d : ℕ) → i < n → get_or (pattern n) i d ≡ i % 251
unfolding pattern
get_or-pattern n i d below = get_or-map-range_with_len (λ i. i % 251) 0 n i i d below (omega arith)

pub pattern_is : (xs : List ℕ) (n : ℕ) → length xs ≡ n → ((k : ℕ) → k < n → get_or xs k 0 ≡ k % 251) → xs ≡ pattern n
unfolding pattern
pattern_is xs n len same = fill_by_all (λ i. i % 251) xs n 0 len same

pub take-pattern : (n k : ℕ) → k ≤ n → take k (pattern n) ≡ pattern k
unfolding pattern
take-pattern n k low = take-map-range_with_len (λ i. i % 251) 0 n k low

-- the pattern goes on with itself after whole periods
pub pattern-add : (a b k : ℕ) → a ≡ 251 * k → pattern a ++ pattern b ≡ pattern (a + b)
pattern-add a b k whole =
    let la = length-pattern a in
    let lb = length-pattern b in
    let len : length (pattern a ++ pattern b) ≡ length (pattern (a + b)) =
    omega (arith, length-append (pattern a) (pattern b), la, lb, length-pattern (a + b)) in
    same_lists (pattern a ++ pattern b) (pattern (a + b)) len (λ i d below.
    elim (cases_lt i a) [
      | inl low ↦
          get_or_append_left (pattern a) (pattern b) d i (omega arith) ∙ get_or-pattern a i d low
          ∙ sym (get_or-pattern (a + b) i d (omega arith))
      | inr high ↦
          let inside : i < a + b = omega (arith, len, length-pattern (a + b)) in
          let same : (i - a) % 251 ≡ i % 251 = omega arith in
          get_or-append_right (pattern a) (pattern b) a i d la high ∙ get_or-pattern b (i - a) d (omega arith)
          ∙ same ∙ sym (get_or-pattern (a + b) i d inside)
    ])

pub pattern-zero : pattern 0 ≡ []
unfolding pattern
pattern-zero = refl
