-- How the entries of trackers compare: when none fell, and when one is at least a version.
use Rattle.std.specs.Prelude.{◌≡◌, ◌≤◌, ℕ, max, Option, Some, None}
use Rattle.crdt_core.specs.Order.{option_join}
use Rattle.layout_trackers.specs.declared.trackers.Trackers.{Trackers}
use Rattle.layout_trackers.specs.declared.which.Which.{Which}
use Rattle.layout_trackers.specs.Trackers.{entry}

-- the greater of two versions, of which each may be missing
abbrev pub later : Option ℕ → Option ℕ → Option ℕ
later = option_join max

-- an entry that is at most another: a missing one is below all
abbrev pub IsNotAbove : Option ℕ → Option ℕ → Type 0
IsNotAbove None b = Unit {0}
IsNotAbove (Some a) None = ⊥
IsNotAbove (Some a) (Some b) = a ≤ b

-- no entry fell
abbrev pub Grows : Trackers → Trackers → Type 0
Grows a b = (which : Which) (node : ℕ) → IsNotAbove (entry which node a) (entry which node b)

-- some node has an entry of at least this version
abbrev pub Reached : Which → ℕ → Trackers → Type 0
Reached which v t = (node reached : ℕ) × (entry which node t ≡ Some reached) × (v ≤ reached)
