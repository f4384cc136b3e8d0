-- Sums over lists.
use Rattle.std.proofs.Common.{◌≡◌, ℕ, ◌+◌, ◌*◌, ◌≤◌, Bool, true, false, cond, List, [], ◌∷◌, map, length, refl, sym, ap, ◌∙◌, arith, le_refl}
use Rattle.std.specs.List.{sum_by, filter, flat_map, All, enumerate_from}
use Rattle.std.proofs.lemmas.List.Sums.{sum_by-cons, sum_by-append}
use Rattle.std.proofs.lemmas.List.Elements.{All-head, All-tail, All-cons, All-nil}

pub yes : (b : Bool) (n : ℕ) → b ≡ true → cond b n 0 ≡ n
yes true n h = refl
yes false n h = cc

pub no : (b : Bool) (n : ℕ) → b ≡ false → cond b n 0 ≡ 0
no true n h = cc
no false n h = refl

pub sum_by-plus : {X : Type 0} (f g : X → ℕ) (xs : List X) → sum_by (λ x. f x + g x) xs ≡ sum_by f xs + sum_by g xs
sum_by-plus f g [] = refl
sum_by-plus f g (x ∷ xs) = omega (arith, sum_by-cons (λ x. f x + g x) x xs, sum_by-cons f x xs, sum_by-cons g x xs, sum_by-plus f g xs)

pub sum_by-agree : {X : Type 0} (f g : X → ℕ) (xs : List X) → All (λ x. f x ≡ g x) xs → sum_by f xs ≡ sum_by g xs
sum_by-agree f g [] h = refl
sum_by-agree f g (x ∷ xs) h =
    omega (arith, sum_by-cons f x xs, sum_by-cons g x xs, All-head (λ x. f x ≡ g x) x xs h, sum_by-agree f g xs (All-tail (λ x. f x ≡ g x) x xs h))

pub sum_by-below : {X : Type 0} (f g : X → ℕ) (xs : List X) → All (λ x. f x ≤ g x) xs → sum_by f xs ≤ sum_by g xs
sum_by-below f g [] h = le_refl 0
sum_by-below f g (x ∷ xs) h =
    omega (arith, sum_by-cons f x xs, sum_by-cons g x xs, All-head (λ x. f x ≤ g x) x xs h, sum_by-below f g xs (All-tail (λ x. f x ≤ g x) x xs h))

-- where no term is below that of the other sum, and the sum is not above it, the terms are equal
pub sum_by-tight : {X : Type 0} (f g : X → ℕ) (xs : List X) → All (λ x. f x ≤ g x) xs → sum_by g xs ≤ sum_by f xs → All (λ x. g x ≤ f x) xs
sum_by-tight f g [] h e = All-nil (λ x. g x ≤ f x)
sum_by-tight f g (x ∷ xs) h e =
    let a = sum_by-cons f x xs in
    let b = sum_by-cons g x xs in
    let first = All-head (λ x. f x ≤ g x) x xs h in
    let rest = All-tail (λ x. f x ≤ g x) x xs h in
    let below = sum_by-below f g xs rest in
    All-cons (λ x. g x ≤ f x) x xs (omega arith) (sum_by-tight f g xs rest (omega arith))

pub sum_by-none : {X : Type 0} (xs : List X) → sum_by (λ x. 0) xs ≡ 0
sum_by-none [] = refl
sum_by-none (x ∷ xs) = omega (arith, sum_by-cons (λ x. 0) x xs, sum_by-none xs)

pub sum_by-swap : {X Y : Type 0} (f : X → Y → ℕ) (xs : List X) (ys : List Y) →
    sum_by (λ x. sum_by (λ y. f x y) ys) xs ≡ sum_by (λ y. sum_by (λ x. f x y) xs) ys
sum_by-swap f [] ys = sym (sum_by-none ys)
sum_by-swap f (x ∷ xs) ys =
    sum_by-cons (λ x. sum_by (λ y. f x y) ys) x xs ∙ ap (λ s. sum_by (λ y. f x y) ys + s) (sum_by-swap f xs ys)
    ∙ sym (sum_by-plus (λ y. f x y) (λ y. sum_by (λ x. f x y) xs) ys)
    ∙ sum_by-agree (λ y. f x y + sum_by (λ x. f x y) xs) (λ y. sum_by (λ x. f x y) (x ∷ xs)) ys
    (λ k d h. sym (sum_by-cons (λ x. f x _) x xs))

pub sum_by-filter : {X : Type 0} (p : X → Bool) (f : X → ℕ) (xs : List X) → sum_by f (filter p xs) ≡ sum_by (λ x. cond (p x) (f x) 0) xs
sum_by-filter p f [] = refl
sum_by-filter p f (x ∷ xs) =
    let more = sum_by-cons (λ x. cond (p x) (f x) 0) x xs in
    let ih = sum_by-filter p f xs in
    elim (p x) as (λ b. sum_by (λ x. cond (p x) (f x) 0) (x ∷ xs) ≡ cond b (f x) 0 + sum_by (λ x. cond (p x) (f x) 0) xs → sum_by f (cond b (x ∷ filter p xs) (filter p xs)) ≡ sum_by (λ x. cond (p x) (f x) 0) (x ∷ xs)) [
      | true ↦ λ e. omega (arith, sum_by-cons f x (filter p xs), ih, e)
      | false ↦ λ e. omega (arith, ih, e)
    ] more

pub sum_by-scale : {X : Type 0} (k : ℕ) (f : X → ℕ) (xs : List X) → sum_by (λ x. k * f x) xs ≡ k * sum_by f xs
sum_by-scale k f [] = omega arith
sum_by-scale k f (x ∷ xs) = omega (arith, sum_by-cons (λ x. k * f x) x xs, sum_by-cons f x xs, ap (λ n. k * n) (sum_by-cons f x xs), sum_by-scale k f xs)

pub sum_by-map : {X Y : Type 0} (f : Y → ℕ) (g : X → Y) (xs : List X) → sum_by f (map g xs) ≡ sum_by (λ x. f (g x)) xs
sum_by-map f g [] = refl
sum_by-map f g (x ∷ xs) = omega (arith, sum_by-cons f (g x) (map g xs), sum_by-cons (λ x. f (g x)) x xs, sum_by-map f g xs)

pub sum_by-flat_map : {X Y : Type 0} (f : Y → ℕ) (g : X → List Y) (xs : List X) → sum_by f (flat_map g xs) ≡ sum_by (λ x. sum_by f (g x)) xs
sum_by-flat_map f g [] = refl
sum_by-flat_map f g (x ∷ xs) = omega (arith, sum_by-append f (g x) (flat_map g xs), sum_by-cons (λ x. sum_by f (g x)) x xs, sum_by-flat_map f g xs)

pub sum_by-enumerate : {X : Type 0} (f : X → ℕ) (n : ℕ) (xs : List X) → sum_by (λ e. f e.1) (enumerate_from n xs) ≡ sum_by f xs
sum_by-enumerate f n [] = refl
sum_by-enumerate {X} f n (x ∷ xs) = omega (arith, sum_by-cons {X = ℕ × X} (λ e. f e.1) (n, x) (enumerate_from (n + 1) xs), sum_by-cons f x xs, sum_by-enumerate f (n + 1) xs)

pub sum_by-constant : {X : Type 0} (k : ℕ) (xs : List X) → sum_by (λ x. k) xs ≡ length xs * k
sum_by-constant k [] = omega arith
sum_by-constant k (x ∷ xs) = omega (arith, sum_by-cons (λ x. k) x xs, sum_by-constant k xs)
