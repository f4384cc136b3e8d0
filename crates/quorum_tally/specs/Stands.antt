-- What a tally stands for: its first version, its sets, and the nodes that have confirmed.
use Rattle.std.specs.Prelude.{◌≡◌, ℕ, List, map}
use Rattle.std.specs.List.{AllByRecursion}
use Rattle.quorum_tally.specs.declared.tally.Tally.{Tally}
use Rattle.quorum_tally.specs.Marks.{nodes_of, IsRight}

-- a tally counts from this version on, over these sets, and these nodes have confirmed
pub record Tallies (t : Tally) (first : ℕ) (sets : List (List ℕ)) (nodes : List ℕ) : Type 0 where
  pub version : t.first ≡ first
  pub sets_of : map nodes_of t.slots.items ≡ sets
  pub marks : AllByRecursion (IsRight nodes) t.slots.items
