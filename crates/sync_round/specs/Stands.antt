-- What a round stands for: the version that it leads to, its partitions with their sets, its own node, and the
-- confirmations that it was told so far, each a partition and a node.
use Rattle.std.specs.Prelude.{◌≡◌, ℕ, List, map}
use Rattle.std.specs.List.{AllByRecursion}
use Rattle.sync_round.specs.declared.round.Round.{Round}
use Rattle.sync_round.specs.Round.{confirmed}
use Rattle.quorum_tally.specs.Marks.{IsRight, nodes_of}

-- a round leads to this version, over these partitions and sets, counts its own node in, and was told these confirmations
pub record IsRound (r : Round) (target : ℕ) (parts : List (ℕ × List ℕ)) (own : ℕ) (told : List (ℕ × ℕ)) : Type 0 where
  pub version : r.target ≡ target
  pub parts_of : map (λ e. (e.0, nodes_of e.1)) r.parts.entries ≡ parts
  pub marks : AllByRecursion (λ e. IsRight (confirmed own told e.0) e.1) r.parts.entries
