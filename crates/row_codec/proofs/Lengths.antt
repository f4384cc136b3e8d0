-- How many bytes parts have that stand one after the other.
use Rattle.std.proofs.Common.{◌≡◌, ℕ, ◌+◌, ◌^◌, ◌<◌, ◌≤◌, List, length, get_or, take, Option, Some, None, IfNone, ap, arith}
use Rattle.std.specs.List.{flat_map}
use Rattle.std.proofs.lemmas.List.Folds.{length-flat_map-take}

-- where those before one and that one are too long, all are
pub too_long : {X : Type 0} (f : X → List ℕ) (xs : List X) (i : ℕ) (x : X) → i < length xs → x ≡ get_or xs i x → 2 ^ 64 ≤ length (flat_map f (take i xs)) + length (f x) → 2 ^ 64 ≤ length (flat_map f xs)
too_long {X} f xs i x lt is enough =
    let front = length-flat_map-take f xs i x lt in
    let same : length (f x) ≡ length (f (get_or xs i x)) = ap (λ (y : X). length (f y)) is in
    omega (arith, front, same)

-- what holds also holds where there is none
pub holds : {A P : Type 0} (r : Option A) → P → IfNone r P
holds (Some x) p = tt
holds None p = p
