-- The least of some numbers.
use Rattle.std.specs.Prelude.{ℕ, min, List, Option, Some, None}
use Rattle.std.specs.List.{fold}

-- a number beside the least so far
abbrev pub lesser : Option ℕ → ℕ → Option ℕ
lesser None b = Some b
lesser (Some a) b = Some (min a b)

-- the least of a list, or none where it is empty
abbrev pub least : List ℕ → Option ℕ
least xs = fold lesser None xs
