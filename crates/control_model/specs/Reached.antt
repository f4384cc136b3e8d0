-- The worlds that steps lead to.
use Rattle.std.specs.Prelude.{◌≡◌, ◌≤◌, ℕ, List}
use Rattle.view_model.specs.View.{Reading}
use Rattle.control_model.specs.World.{World, empty}
use Rattle.control_model.specs.Steps.{Step, run}

module _ {L : Type 0} (r : Reading L) (partitions : ℕ) where
  -- there is a partition, and steps lead from the empty world to this one
  abbrev pub IsReached : World L → Type 0
  IsReached w = (1 ≤ partitions) × ((steps : List (Step L)) × (w ≡ run r partitions empty steps))
