-- An input that was read to one byte past a limit.
use Rattle.std.proofs.Common.{◌≡◌, ℕ, ◌+◌, ◌<◌, ◌≤◌, Option, Some, None, List, length, take, ap, subst, arith, IfSome}
use Rattle.std.proofs.lemmas.List.{length-take}

-- more was read than the limit
pub longer : (left : Option (List ℕ)) (limit : ℕ) (all : List ℕ) → limit < length all → IfSome left (λ bytes. all ≡ take (limit + 1) bytes) → IfSome left (λ bytes. limit < length bytes)
longer None limit all more h = tt
longer (Some bytes) limit all more h = omega (arith, ap length h, length-take (limit + 1) bytes)

-- no more was read
pub not_longer : (left : Option (List ℕ)) (limit : ℕ) (all : List ℕ) → length all ≤ limit → IfSome left (λ bytes. all ≡ take (limit + 1) bytes) → IfSome left (λ bytes. length bytes ≤ limit → all ≡ bytes) →
    IfSome left (λ bytes. (length bytes ≤ limit) × (all ≡ bytes))
not_longer None limit all less h short = tt
not_longer (Some bytes) limit all less h short =
    let fits : length bytes ≤ limit = omega (arith, ap length h, length-take (limit + 1) bytes) in (fits, short fits)

-- what holds of all that was read holds of the input
pub of_all : (P : List ℕ → Type 0) (left : Option (List ℕ)) (limit : ℕ) (all : List ℕ) → IfSome left (λ bytes. (length bytes ≤ limit) × (all ≡ bytes)) → P all → IfSome left (λ bytes. (length bytes ≤ limit) × P bytes)
of_all P None limit all read p = tt
of_all P (Some bytes) limit all read p = (read.0, subst P read.1 p)
