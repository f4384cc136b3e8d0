-- How many phases a request begins at most, behind the one whose end it waits for. Those of a list are counted by its windows.
use Rattle.std.specs.Prelude.{◌≤◌, ◌+◌, ◌*◌, ◌-◌, ℕ, suc, ⊤, length}
use Rattle.crdt_rows.specs.declared.any_row.AnyRow.{AnyRow}
use Rattle.wire_messages.specs.declared.phase.Phase.TheVariants.{Range}
use Rattle.wire_messages.specs.declared.phase.PhaseEnd.{PhaseEnd}
use Rattle.wire_messages.specs.declared.phase.PhaseEnd.TheVariants.{Row, Block}
use Rattle.flow_model.specs.declared.flow.Wish.{Wish}
use Rattle.flow_model.specs.declared.flow.Wish.TheVariants as wish
use Rattle.flow_model.specs.declared.flow.Aim.{Aim}
use Rattle.flow_model.specs.declared.flow.Aim.TheVariants as aim
use Rattle.flow_model.specs.declared.flow.Stage.{Stage}
use Rattle.flow_model.specs.declared.flow.Stage.TheVariants.{Drawing, Uploading, Looking, Opening, Gathering}
use Rattle.flow_model.specs.declared.flow.FlowStep.{FlowStep}
use Rattle.flow_model.specs.declared.flow.FlowStep.TheVariants.{More, Need, Wait, End}
use Rattle.flow_model.specs.Says.{Said, inline, said_of, Named, whole, named_by}

-- what rows and nodes hold: a row of a version names so many blocks at most, a block has so many bytes at most, and an object so many, as many as all blocks together at least
pub record Held : Type 0 where
  pub blocks : ℕ
  pub size : ℕ
  pub bytes : ℕ
  pub enough : blocks * size ≤ bytes

-- ---- what is left

-- to write what is wished: the upload's row, each of its blocks, of a byte at least, and the complete version
abbrev pub left_to_write : Wish → ℕ
left_to_write wish.Marker = 1
left_to_write (wish.Stream coming) = 1
left_to_write (wish.Content c) = length c.body + 2

module _ (h : Held) where
  -- to do with an object that was read: a copy reads its own row, and writes
  abbrev pub left_then : Aim → ℕ
  left_then aim.Get = 0
  left_then aim.Head = 0
  left_then (aim.Copy name headers) = h.bytes + 3

  -- to do for a request that waits so; one that needs its client, or has only to wait for the phase that it is in, nothing
  abbrev pub left : Stage → ℕ
  left (Drawing name w) = left_to_write w
  left (Uploading name version c stored) = suc (length c.body) - stored
  left (Looking name a) = suc h.blocks + left_then a
  left (Opening version meta a) = h.blocks + left_then a
  left (Gathering version meta a named body) = length named + left_then a
  left _ = 0

  -- ---- what is within

  -- an upload has stored no more blocks than it has bytes; what was gathered, the block that is waited for and those that are left are no more than an object has
  abbrev pub IsWithin : Stage → Type 0
  IsWithin (Uploading name version c stored) = stored ≤ length c.body
  IsWithin (Gathering version meta a named body) = length body + suc (length named) * h.size ≤ h.bytes
  IsWithin stage = ⊤

  -- of an object whose bytes are in its row there are no more
  abbrev pub SaysFew : Said → Type 0
  SaysFew (inline version meta body) = length body ≤ h.bytes
  SaysFew said = ⊤

  -- a row names no more blocks
  abbrev pub NamesFew : Named → Type 0
  NamesFew (whole named) = length named ≤ h.blocks
  NamesFew named = ⊤

  -- what a phase gives is no more than is held
  abbrev pub GivesFew : PhaseEnd AnyRow → Type 0
  GivesFew (Row value) = SaysFew (said_of value) × ((size : ℕ) → NamesFew (named_by value size))
  GivesFew (Block bytes) = length bytes ≤ h.size
  GivesFew end = ⊤

  -- ---- what follows

  -- a phase follows, and then less is left than there was
  abbrev pub LeavesFewer : ℕ → FlowStep → Type 0
  LeavesFewer before (More flow (Range position prefix after)) = ⊤
  LeavesFewer before (More flow phase) = (suc (left flow.stage) ≤ before) × IsWithin flow.stage
  LeavesFewer before (Need flow wanted) = IsWithin flow.stage
  LeavesFewer before (Wait flow) = (left flow.stage ≤ before) × IsWithin flow.stage
  LeavesFewer before (End end) = ⊤
