-- The nodes of a set without one of them.
use Rattle.std.specs.Prelude.{ℕ, not, ◌==◌, List}
use Rattle.std.specs.List.{filter}

-- the set without this node
abbrev pub others_of : ℕ → List ℕ → List ℕ
others_of node set = filter (λ n. not (n == node)) set
