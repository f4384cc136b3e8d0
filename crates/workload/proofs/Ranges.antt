-- What is made for each number of a range, one number more.
use Rattle.std.proofs.Common.{◌≡◌, ◌≤◌, ℕ, ◌+◌, ◌-◌, List, [], ◌∷◌, ◌++◌, map, arith, ap, ◌∙◌, append_assoc}
use Rattle.std.specs.List.{range_with_len}
use Rattle.std.proofs.lemmas.List.FromFn.{map-range_with_len_more}

range_more : {X : Type 0} (f : ℕ → X) (a n : ℕ) → a ≤ n → map f (range_with_len a (n + 1 - a)) ≡ map f (range_with_len a (n - a)) ++ f n ∷ []
range_more f a n h =
    let one : n + 1 - a ≡ n - a + 1 = omega arith in
    ap (λ k. map f (range_with_len a k)) one ∙ map-range_with_len_more f a (n - a) n (omega arith)

-- behind a list stands what is made of a to n - 1, and then what is made of n is pushed
pub range_pushed : {X : Type 0} (f : ℕ → X) (a n : ℕ) (front xs ys : List X) (y : X) → a ≤ n → xs ≡ front ++ map f (range_with_len a (n - a)) → y ≡ f n → ys ≡ xs ++ y ∷ [] → ys ≡ front ++ map f (range_with_len a (n + 1 - a))
range_pushed f a n front xs ys y le so is pushed =
    let more = range_more f a n le in
    let behind = append_assoc front (map f (range_with_len a (n - a))) (f n ∷ []) in
    cc
