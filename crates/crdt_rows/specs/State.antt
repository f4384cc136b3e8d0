-- The order of states.
use Rattle.std.specs.Prelude.{ℕ, ◌==◌, Bool, true, false, length}
use Rattle.std.specs.declared.cmp.Ordering.{Ordering}
use Rattle.std.specs.Ordering.{nat_cmp}
use Rattle.crdt_rows.specs.declared.body.Body.TheVariants.{Inline}
use Rattle.crdt_rows.specs.declared.state.State.{State}
use Rattle.crdt_rows.specs.declared.state.State.TheVariants.{Uploading, Aborted, Complete}
use Rattle.crdt_rows.specs.Body.{body_cmp}

-- Uploading, then Aborted, then Complete
abbrev pub stage : State → ℕ
stage Uploading = 0
stage Aborted = 1
stage (Complete b) = 2

-- by stage, and two Complete ones by what they hold
abbrev pub state_cmp : State → State → Ordering
state_cmp (Complete a) (Complete b) = body_cmp a b
state_cmp a b = nat_cmp (stage a) (stage b)

-- the upload is done
abbrev pub is_complete : State → Bool
is_complete Uploading = false
is_complete Aborted = false
is_complete (Complete b) = true

-- the upload was given up
abbrev pub is_aborted : State → Bool
is_aborted Uploading = false
is_aborted Aborted = true
is_aborted (Complete b) = false

-- inline bytes are as many as their size says
abbrev pub is_sized : State → Bool
is_sized (Complete (Inline m d)) = m.size == length d
is_sized s = true
