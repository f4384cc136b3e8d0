-- Elements that pass a test and stand close together.
use Rattle.std.proofs.Common.{◌≡◌, ℕ, zero, suc, ◌+◌, ◌-◌, ◌<◌, ◌≤◌, Bool, true, false, cond, ◌||◌, List, [], ◌∷◌, ◌++◌, length, get_or, take, replicate, refl, ap, ◌∙◌, subst, inl, inr, arith, length-append}
use Rattle.std.specs.List.{sum_by, count_by, list_any, flat_map, All, range_with_len}
use Rattle.std.proofs.lemmas.Bool.{cases_Bool, cases_lt, or_from, or_parts}
use Rattle.std.proofs.lemmas.List.{length-take, get_or-take, get_or_append_left, get_or-append_right}
use Rattle.std.proofs.lemmas.List.Sums.{sum_by-cons, sum_by_more}
use Rattle.std.proofs.lemmas.List.Folds.{list_any-append, list_any_at}
use Rattle.std.proofs.lemmas.List.Elements.{All-head, All-tail, All-cons, All-nil, All-append}
use Rattle.layout_flow.proofs.Zones.{count-cons, count_at, none_from_count}
use Rattle.layout_flow.proofs.Sums.{yes, no}

-- all that pass stand in a stretch of k places
pub record Lies {X : Type 0} (p : X → Bool) (k : ℕ) (xs : List X) : Type 0 where
  pub from : ℕ
  pub within : (i : ℕ) (d : X) → i < length xs → p (get_or xs i d) ≡ true → (from ≤ i) × (i < from + k)

pub lies_short : {X : Type 0} (p : X → Bool) (k : ℕ) (xs : List X) → length xs ≤ k → Lies p k xs
lies_short p k xs h = record { from = 0; within = λ i d l t. (omega arith, omega arith) }

pub lies_take : {X : Type 0} (p : X → Bool) (k n : ℕ) (xs : List X) → Lies p k xs → Lies p k (take n xs)
lies_take p k n xs lies = record {
  from = lies.from;
  within = λ i d l t.
      let len = length-take n xs in
      lies.within i d (omega arith) (subst (λ x. p x ≡ true) (get_or-take n xs i d (omega arith)) t);
}

none_at : {X : Type 0} (p : X → Bool) (xs : List X) (i : ℕ) (d : X) → list_any p xs ≡ false → i < length xs → p (get_or xs i d) ≡ true → ⊥
none_at p xs i d none l t = let some = list_any_at p xs i d l t in cc

pub lies_after : {X : Type 0} (p : X → Bool) (k : ℕ) (xs ys : List X) → list_any p xs ≡ false → Lies p k ys → Lies p k (xs ++ ys)
lies_after p k xs ys none lies = record {
  from = length xs + lies.from;
  within = λ i d l t.
      let len = length-append xs ys in
      elim (cases_lt i (length xs)) [
        | inl less ↦ absurd (none_at p xs i d none less (subst (λ x. p x ≡ true) (get_or_append_left xs ys d i less) t))
        | inr more ↦
            let at = lies.within (i - length xs) d (omega arith) (subst (λ x. p x ≡ true) (get_or-append_right xs ys (length xs) i d refl more) t) in
            (omega arith, omega arith)
      ];
}

pub lies_before : {X : Type 0} (p : X → Bool) (k : ℕ) (xs ys : List X) → list_any p ys ≡ false → Lies p k xs → Lies p k (xs ++ ys)
lies_before p k xs ys none lies = record {
  from = lies.from;
  within = λ i d l t.
      let len = length-append xs ys in
      elim (cases_lt i (length xs)) [
        | inl less ↦ lies.within i d less (subst (λ x. p x ≡ true) (get_or_append_left xs ys d i less) t)
        | inr more ↦ absurd (none_at p ys (i - length xs) d none (omega arith) (subst (λ x. p x ≡ true) (get_or-append_right xs ys (length xs) i d refl more) t))
      ];
}

pub any_flat : {X Y : Type 0} (p : X → Bool) (f : Y → List X) (zs : List Y) → list_any p (flat_map f zs) ≡ list_any (λ z. list_any p (f z)) zs
any_flat p f [] = refl
any_flat p f (z ∷ zs) = list_any-append p (f z) (flat_map f zs) ∙ ap (λ b. list_any p (f z) || b) (any_flat p f zs)

-- where one list at most has any that pass, they stand as close in all lists joined
pub lies_flat : {X Y : Type 0} (p : X → Bool) (k : ℕ) (f : Y → List X) (zs : List Y) → count_by (λ z. list_any p (f z)) zs ≤ 1 → All (λ z. Lies p k (f z)) zs → Lies p k (flat_map f zs)
lies_flat p k f [] once each = record { from = 0; within = λ i d l t. absurd (omega arith) }
lies_flat {X} {Y} p k f (z ∷ zs) once each =
    let more = count-cons (λ z. list_any p (f z)) z zs in
    elim (cases_Bool (list_any p (f z))) [
      | inl t ↦
          let none = none_from_count (λ z. list_any p (f z)) zs (omega (arith, yes (list_any p (f z)) 1 t)) in
          lies_before p k (f z) (flat_map f zs) (any_flat p f zs ∙ none) (All-head (λ z. Lies p k (f z)) z zs each)
      | inr e ↦ lies_after p k (f z) (flat_map f zs) e (lies_flat p k f zs (omega (arith, no (list_any p (f z)) 1 e)) (All-tail (λ z. Lies p k (f z)) z zs each))
    ]

pub any_take : {X : Type 0} (p : X → Bool) (n : ℕ) (xs : List X) → list_any p xs ≡ false → list_any p (take n xs) ≡ false
any_take p zero xs h = refl
any_take p (suc n) [] h = refl
any_take p (suc n) (x ∷ xs) h =
    let parts = or_parts (p x) (list_any p xs) h in
    or_from (p x) (list_any p (take n xs)) parts.0 (any_take p n xs parts.1)

pub any_replicate : {X : Type 0} (p : X → Bool) (n : ℕ) (x : X) → p x ≡ false → list_any p (replicate n x) ≡ false
any_replicate p zero x h = refl
any_replicate p (suc n) x h = or_from (p x) (list_any p (replicate n x)) h (any_replicate p n x h)

pub All-flat_map : {X Y : Type 0} (P : X → Type 0) (f : Y → List X) (zs : List Y) → All (λ z. All P (f z)) zs → All P (flat_map f zs)
All-flat_map P f [] each = All-nil P
All-flat_map P f (z ∷ zs) each = All-append P (f z) (flat_map f zs) (All-head (λ z. All P (f z)) z zs each) (All-flat_map P f zs (All-tail (λ z. All P (f z)) z zs each))

-- a sum over places in a row is the sum over the elements there
places_from : {X : Type 0} (f : X → ℕ) (d : X) (a b m : ℕ) (xs : List X) → a + b + m ≤ length xs →
    sum_by f (take (a + b) xs) + sum_by (λ p. f (get_or xs (a + p) d)) (range_with_len b m) ≡ sum_by f (take (a + b + m) xs)
places_from f d a b zero xs h =
    let same : a + b + 0 ≡ a + b = omega arith in
    let e = ap (λ k. sum_by f (take k xs)) same in
    omega arith
places_from f d a b (suc m) xs h =
    let g : ℕ → ℕ = λ p. f (get_or xs (a + p) d) in
    let first = sum_by-cons g b (range_with_len (b + 1) m) in
    let more = sum_by_more f xs (a + b) d (omega arith) in
    let rest = places_from f d a (b + 1) m xs (omega arith) in
    let one : a + b + 1 ≡ a + (b + 1) = omega arith in
    let all : a + (b + 1) + m ≡ a + b + suc m = omega arith in
    let e = ap (λ k. sum_by f (take k xs)) one in
    let g' = ap (λ k. sum_by f (take k xs)) all in
    omega arith

pub sum_by_places : {X : Type 0} (f : X → ℕ) (d : X) (a n : ℕ) (xs : List X) → a + n ≤ length xs →
    sum_by f (take a xs) + sum_by (λ p. f (get_or xs (a + p) d)) (range_with_len 0 n) ≡ sum_by f (take (a + n) xs)
sum_by_places f d a n xs h =
    let none : a + 0 ≡ a = omega arith in
    let e = ap (λ k. sum_by f (take k xs)) none in
    let all = ap (λ k. sum_by f (take (k + n) xs)) none in
    let from = places_from f d a 0 n xs (omega arith) in
    omega arith

-- where one element at most passes, the sum over those that pass is one term
pub sum_of_one : {X : Type 0} (t : X → Bool) (g : X → ℕ) (xs : List X) → count_by t xs ≤ 1 → All (λ x. t x ≡ true → sum_by (λ y. cond (t y) (g y) 0) xs ≡ g x) xs
sum_of_one t g [] one = All-nil (λ x. t x ≡ true → sum_by (λ y. cond (t y) (g y) 0) [] ≡ g x)
sum_of_one {X} t g (x ∷ xs) one =
    let more = count-cons t x xs in
    let e = sum_by-cons (λ y. cond (t y) (g y) 0) x xs in
    All-cons (λ z. t z ≡ true → sum_by (λ y. cond (t y) (g y) 0) (x ∷ xs) ≡ g z) x xs
    (λ a.
    let none = nothing xs (omega (arith, yes (t x) 1 a)) in
    omega (arith, yes (t x) (g x) a))
    (λ k d h a.
    let some = count_at t xs k d h a in
    let first : t x ≡ false = elim (cases_Bool (t x)) [ inl y ↦ absurd (omega (arith, yes (t x) 1 y)) | inr n ↦ n ] in
    let rest = sum_of_one t g xs (omega arith) k d h a in
    omega (arith, no (t x) (g x) first))
  where
    nothing : (ys : List X) → count_by t ys ≡ 0 → sum_by (λ y. cond (t y) (g y) 0) ys ≡ 0
    nothing [] h = refl
    nothing (y ∷ ys) h =
        let more = count-cons t y ys in
        let e = sum_by-cons (λ y. cond (t y) (g y) 0) y ys in
        elim (cases_Bool (t y)) [
          | inl a ↦ absurd (omega (arith, yes (t y) 1 a))
          | inr a ↦ omega (arith, no (t y) (g y) a, nothing ys (omega arith))
        ]
