-- Acts whose orders and bytes are in range, and what requests wait for and store in a run of them.
use Rattle.std.specs.Prelude.{◌≡◌, ◌≤◌, ◌<◌, ◌^◌, ⊤, ℕ, true, List, [], ◌∷◌, Some}
use Rattle.std.specs.List.{AllByRecursion, Contains}
use Rattle.row_codec.specs.Range.{version_in_range}
use Rattle.row_codec.specs.Reads.{are_bytes}
use Rattle.cluster_machine.specs.World.{numbered}
use Rattle.machine_origins.specs.Origins.{stored_by}
use Rattle.flow_model.specs.declared.flow.Flow.{Flow}
use Rattle.phase_limits.specs.Phases.{Held, IsWithin, GivesFew}
use Rattle.store_model.specs.Run.{Moving, Asked, Draw, Saw, State}
use Rattle.store_model.specs.Acts.{Act, asks, cuts, feeds, acted}
use Rattle.write_limits.specs.Fitting.{OrderFits, StageFits, EndFits, AreSingle}

-- blocks of a byte at least, and fewer than 2^32
abbrev pub BlockFits : ℕ → Type 0
BlockFits block = (1 ≤ block) × (block < 2 ^ 32)

-- what is asked, the size of blocks, and the bytes that come
abbrev pub ActFits : Act → Type 0
ActFits (asks n o) = OrderFits o
ActFits (cuts block) = BlockFits block
ActFits (feeds q bytes) = are_bytes bytes ≡ true
ActFits _ = ⊤

-- all that phases gave fits and is within what is held, and all versions that were drawn are in range
pub record GaveFits (h : Held) (s : State) : Type 0 where
  pub saw : (x : Saw) → Contains s.saw x → EndFits x.end × GivesFew h x.end
  pub draws : (d : Draw) → Contains s.draws d → version_in_range d.version ≡ true

-- what a request waits for fits, and is within what is held
pub record FlowFits (h : Held) (flow : Flow) : Type 0 where
  pub block : BlockFits flow.block
  pub stage : StageFits flow.stage
  pub within : IsWithin h flow.stage

-- so does each request
abbrev pub WaitFitting : Held → List Asked → Type 0
WaitFitting h asked = (q : ℕ) (a : Asked) (flow : Flow) → numbered asked q ≡ Some a → a.flow ≡ Some flow → FlowFits h flow

-- each row that these steps begin to store has a spelling and one entry at most
abbrev pub StoreSingle : List Moving → Type 0
StoreSingle moves = AllByRecursion (λ m. AreSingle (stored_by m.step)) moves

-- and so of these acts
abbrev pub ActsStoreSingle : State → List Act → Type 0
ActsStoreSingle s [] = ⊤
ActsStoreSingle s (a ∷ as') = StoreSingle (acted s a).moves × ActsStoreSingle (acted s a).state as'
