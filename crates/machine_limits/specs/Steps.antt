-- Steps that ask for little: short waits, short keys, and few rows to store.
use Rattle.std.specs.Prelude.{◌≡◌, ◌≤◌, ◌+◌, ℕ, true, List, Option, Some, None, length, ⊤}
use Rattle.std.specs.List.{AllByRecursion}
use Rattle.layout_roles.specs.declared.layout.Layout.{Layout}
use Rattle.row_codec.specs.Reads.{are_bytes}
use Rattle.table_schema.specs.Words.{Words}
use Rattle.wire_messages.specs.declared.phase.Phase.{Phase}
use Rattle.wire_messages.specs.declared.phase.Phase.TheVariants.{Read, Range, Store, Block}
use Rattle.cluster_machine.specs.declared.step.Step.{Step}
use Rattle.cluster_machine.specs.declared.step.Step.TheVariants.{Tick, Skew, Deliver, Phase as Begin}
use Rattle.cluster_machine.specs.World.{Sent, numbered, packet_size}
use Rattle.cluster_machine.specs.Worlds.{Model}

-- bytes of a block: a mebibyte at most
pub record IsShort (bytes : List ℕ) : Type 0 where
  pub are : are_bytes bytes ≡ true
  pub short : length bytes ≤ 1048576

-- such bytes, if any
abbrev pub IsShortBlock : Option (List ℕ) → Type 0
IsShortBlock None = ⊤
IsShortBlock (Some bytes) = IsShort bytes

module _ {R : Type 0} (P : R → Type 0) (weight : R → ℕ) where
  -- a row that is to be stored has the property and counts 10 ^ 15 bytes at most, and its block is short
  abbrev pub StoredFits : R × Option (List ℕ) → Type 0
  StoredFits r = P r.0 × (weight r.0 ≤ 1000000000000000) × IsShortBlock r.1

  -- what a phase asks nodes for is short, and it stores two rows at most
  abbrev pub PhaseFits : Phase R → Type 0
  PhaseFits (Read table position key) = length key ≤ 200
  PhaseFits (Range position prefix after) = (length position.0 ≡ 32) × (length prefix ≤ 100) × (length after ≤ 100)
  PhaseFits (Store rows) = (length rows ≤ 2) × AllByRecursion StoredFits rows
  PhaseFits (Block hash) = ⊤

  -- a tick is of a day at most and a skew of an hour, and phases ask for little
  abbrev pub StepFits : Step R → Type 0
  StepFits (Tick ms) = ms ≤ 86400000
  StepFits (Skew n ms) = ms ≤ 3600000
  StepFits (Begin q phase) = PhaseFits phase
  StepFits _ = ⊤

-- where so many bytes were delivered, and so many may be, there is room for what the step delivers
abbrev pub HasPlace : {R : Type 0} → Words R → ℕ → ℕ → Model R → Step R → Type 0
HasPlace s k m w (Deliver i) = (x : Sent _ Layout) → numbered w.messages i ≡ Some x → (b : ℕ) → packet_size s x.packet ≡ Some b → k + b ≤ m
HasPlace s k m w _ = ⊤
