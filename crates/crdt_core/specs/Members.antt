-- Membership and counts, as walks along the list.
use Rattle.std.specs.Prelude.{◌≡◌, ◌⊎◌, Bool, nat_le, count_by, List, [], ◌∷◌}

-- x is an element
abbrev pub Has : {A : Type 0} → List A → A → Type 0
Has [] x = ⊥
Has (y ∷ ys) x = (y ≡ x) ⊎ Has ys x

-- P of one of these
abbrev pub OneOf : {A : Type 0} → (A → Type 0) → List A → Type 0
OneOf P [] = ⊥
OneOf P (x ∷ xs) = P x ⊎ OneOf P xs

-- P of two of these, at different places
abbrev pub TwoOf : {A : Type 0} → (A → Type 0) → List A → Type 0
TwoOf P [] = ⊥
TwoOf P (x ∷ xs) = (P x × OneOf P xs) ⊎ TwoOf P xs

-- two of these pass the test, at different places
abbrev pub two_pass : {A : Type 0} → (A → Bool) → List A → Bool
two_pass test xs = nat_le 2 (count_by test xs)
