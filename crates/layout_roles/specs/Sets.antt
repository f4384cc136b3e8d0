-- Sets of three nodes in order of numbers.
use Rattle.std.specs.Prelude.{ℕ, cond, nat_lt, List, [], ◌∷◌}

-- a node put into a list in order of numbers
abbrev pub put_node : ℕ → List ℕ → List ℕ
put_node node [] = node ∷ []
put_node node (first ∷ rest) = cond (nat_lt node first) (node ∷ first ∷ rest) (first ∷ put_node node rest)

-- three nodes in order of numbers
abbrev pub in_order : ℕ → ℕ → ℕ → List ℕ
in_order first second third = put_node third (put_node second (first ∷ []))
