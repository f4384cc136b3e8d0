-- Requests of the model by their numbers.
use Rattle.std.proofs.Common.{◌≡◌, ℕ, zero, suc, ◌-◌, ◌≤◌, Some, None, List, [], ◌∷◌, ◌++◌, length, refl, ap, subst, arith}
use Rattle.std.specs.Prelude.{slice_get, slice_set}
use Rattle.cluster_machine.specs.World.{numbered}

module _ {A : Type 0} where
  get_set : (xs : List A) (i : ℕ) (x y : A) → slice_get xs i ≡ Some x → slice_get (slice_set xs i y) i ≡ Some y
  get_set [] i x y h = absurd (cc)
  get_set (z ∷ xs) zero x y h = refl
  get_set (z ∷ xs) (suc i) x y h = get_set xs i x y h

  get_other : (xs : List A) (i j : ℕ) (y : A) → (i ≡ j → ⊥) → slice_get (slice_set xs i y) j ≡ slice_get xs j
  get_other [] i j y other = refl
  get_other (z ∷ xs) zero zero y other = absurd (other refl)
  get_other (z ∷ xs) zero (suc j) y other = refl
  get_other (z ∷ xs) (suc i) zero y other = refl
  get_other (z ∷ xs) (suc i) (suc j) y other = get_other xs i j y (λ e. other (ap suc e))

  -- a request that is written, and another one
  pub numbered_set : (xs : List A) (q : ℕ) (x y : A) → numbered xs q ≡ Some x → numbered (slice_set xs (q - 1) y) q ≡ Some y
  numbered_set xs zero x y h = absurd (cc)
  numbered_set xs (suc q) x y h = let place : q ≡ suc q - 1 = omega arith in subst (λ i. slice_get (slice_set xs i y) q ≡ Some y) place (get_set xs q x y h)

  pub numbered_other : (xs : List A) (q p : ℕ) (x y : A) → numbered xs q ≡ Some x → (q ≡ p → ⊥) → numbered (slice_set xs (q - 1) y) p ≡ numbered xs p
  numbered_other xs zero p x y h other = absurd (cc)
  numbered_other xs (suc q) zero x y h other = refl
  numbered_other xs (suc q) (suc p) x y h other =
      let place : q ≡ suc q - 1 = omega arith in subst (λ i. slice_get (slice_set xs i y) p ≡ slice_get xs p) place (get_other xs q p y (λ e. other (ap suc e)))

  -- one more
  pub numbered_push : (xs : List A) (q : ℕ) (x y : A) → numbered xs q ≡ Some x → numbered (xs ++ y ∷ []) q ≡ Some x
  numbered_push xs zero x y h = absurd (cc)
  numbered_push [] (suc q) x y h = absurd (cc)
  numbered_push (z ∷ xs) (suc zero) x y h = h
  numbered_push (z ∷ xs) (suc (suc q)) x y h = numbered_push xs (suc q) x y h

  pub numbered_last : (xs : List A) (y : A) → numbered (xs ++ y ∷ []) (suc (length xs)) ≡ Some y
  numbered_last [] y = refl
  numbered_last (z ∷ xs) y = numbered_last xs y

  pub numbered_before : (xs : List A) (q : ℕ) (y : A) → (q ≡ suc (length xs) → ⊥) → numbered (xs ++ y ∷ []) q ≡ numbered xs q
  numbered_before xs zero y other = refl
  numbered_before [] (suc zero) y other = absurd (other refl)
  numbered_before [] (suc (suc q)) y other = refl
  numbered_before (z ∷ xs) (suc zero) y other = refl
  numbered_before (z ∷ xs) (suc (suc q)) y other = numbered_before xs (suc q) y (λ e. other (ap suc e))

  pub numbered_within : (xs : List A) (q : ℕ) (x : A) → numbered xs q ≡ Some x → q ≤ length xs
  numbered_within xs zero x h = omega arith
  numbered_within [] (suc q) x h = absurd (cc)
  numbered_within (z ∷ xs) (suc zero) x h = omega arith
  numbered_within (z ∷ xs) (suc (suc q)) x h = let less : suc q ≤ length xs = numbered_within xs (suc q) x h in omega arith

  pub numbered_past : (xs : List A) → numbered xs (suc (length xs)) ≡ None
  numbered_past [] = refl
  numbered_past (z ∷ xs) = numbered_past xs
