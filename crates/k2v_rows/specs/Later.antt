-- Values with times, of which those up to some time are discarded. And the length of a partition key.
use Rattle.std.specs.Prelude.{ℕ, ◌^◌, Bool, max, nat_lt, List, [], ◌∷◌, length}
use Rattle.std.specs.List.{list_all}

-- each value's time is above d
abbrev pub are_later : {V : Type 0} → ℕ → List (ℕ × V) → Bool
are_later d es = list_all (λ e. nat_lt d e.0) es

-- the greatest of d and the times of the values
abbrev pub greatest_from : {V : Type 0} → ℕ → List (ℕ × V) → ℕ
greatest_from d [] = d
greatest_from d (e ∷ es) = max e.0 (greatest_from d es)

-- fewer than 2 ^ 32 bytes, so that 4 bytes say how many
abbrev pub is_short : List ℕ → Bool
is_short pk = nat_lt (length pk) (2 ^ 32)
