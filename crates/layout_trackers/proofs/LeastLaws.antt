-- The least of a list is in it, and at most each of it.
use Rattle.std.specs.Prelude.{◌≡◌, ◌≤◌, ◌<◌, ◌⊎◌, ℕ, suc, min, List, [], ◌∷◌, Some, IsSome, Contains, All, refl}
use Rattle.std.specs.List.{fold}
use Rattle.std.proofs.Common.{ap, sym, inl, inr, Bool, true, false, leb, arith}
use Rattle.std.specs.Option.{unwrap_or}
use Rattle.std.proofs.lemmas.Bool.{leb-true, leb-false}
use Rattle.std.proofs.lemmas.List.Elements.{All-nil, All-cons}
use Rattle.layout_trackers.specs.Least.{least, lesser}

pub least_of_some : (x : ℕ) (xs : List ℕ) → IsSome (fold lesser (Some x) xs)
least_of_some x [] = refl
least_of_some x (y ∷ ys) = least_of_some (min x y) ys

-- x is the least of these: one of them, and at most each
abbrev pub IsLeastOf : List ℕ → ℕ → Type 0
IsLeastOf xs x = Contains xs x × All (λ y. x ≤ y) xs

-- the least of a and these is a or one of them, and at most each
record Goes (a : ℕ) (xs : List ℕ) (x : ℕ) : Type 0 where
  one : (x ≡ a) ⊎ Contains xs x
  first : x ≤ a
  below : All (λ y. x ≤ y) xs

next : (y : ℕ) (ys : List ℕ) (x : ℕ) → Contains ys x → Contains (y ∷ ys) x
next y ys x (k, h, e) = (suc k, omega arith, e)

there : (y : ℕ) (ys : List ℕ) (x : ℕ) → x ≡ y → Contains (y ∷ ys) x
there y ys x e = (0, omega arith, sym e)

which_least : (a y x : ℕ) (ys : List ℕ) → (b : Bool) → leb a y ≡ b → (x ≡ min a y) ⊎ Contains ys x → (x ≡ a) ⊎ Contains (y ∷ ys) x
which_least a y x ys true t (inl e) = let h : a ≤ y = leb-true a y t in inl (omega arith)
which_least a y x ys false t (inl e) = let h : y < a = leb-false a y t in inr (there y ys x (omega arith))
which_least a y x ys b t (inr c) = inr (next y ys x c)

goes : (a : ℕ) (xs : List ℕ) (x : ℕ) → fold lesser (Some a) xs ≡ Some x → Goes a xs x
goes a [] x e = let same : a ≡ x = ap (λ o. unwrap_or o x) e in record { one = inl (sym same); first = omega arith; below = All-nil (λ y. x ≤ y) }
goes a (y ∷ ys) x e =
    let rest = goes (min a y) ys x e in
    let low : x ≤ min a y = rest.first in
    record {
      one = which_least a y x ys (leb a y) refl rest.one;
      first = omega arith;
      below = All-cons (λ y. x ≤ y) y ys (omega arith) rest.below;
    }

one_of : (y : ℕ) (ys : List ℕ) (x : ℕ) → (x ≡ y) ⊎ Contains ys x → Contains (y ∷ ys) x
one_of y ys x (inl e) = there y ys x e
one_of y ys x (inr c) = next y ys x c

pub least_is_one : (xs : List ℕ) (x : ℕ) → least xs ≡ Some x → IsLeastOf xs x
least_is_one [] x e = cc
least_is_one (y ∷ ys) x e =
    let h = goes y ys x e in
    let low : x ≤ y = h.first in
    (one_of y ys x h.one, All-cons (λ y. x ≤ y) y ys low h.below)
