-- The calls of an object in memory that fail by plan.
use Rattle.std.specs.Prelude.{ℕ, ◌+◌, ◌-◌, ◌^◌, ◌==◌, min, Bool, List}
use Rattle.std.specs.List.{list_any}

-- the number of the next call after `count` calls; it stops at the greatest number of 64 bits
abbrev pub next_call : ℕ → ℕ
next_call count = min (count + 1) (2 ^ 64 - 1)

-- the call of this number is among those that fail
abbrev pub is_planned : List ℕ → ℕ → Bool
is_planned fails call = list_any (λ n. n == call) fails
