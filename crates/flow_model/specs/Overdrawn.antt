-- When a timestamp is past its type.
use Rattle.std.specs.Prelude.{ℕ, ◌≤◌, ◌^◌}
use Rattle.crdt_rows.specs.declared.any_row.AnyRow.{AnyRow}
use Rattle.wire_messages.specs.declared.phase.PhaseEnd.{PhaseEnd}
use Rattle.wire_messages.specs.declared.phase.PhaseEnd.TheVariants.{Row}
use Rattle.flow_model.specs.declared.flow.Stage.{Stage}
use Rattle.flow_model.specs.declared.flow.Stage.TheVariants.{Drawing}
use Rattle.flow_model.specs.Next.{drawn}

-- a write draws at this end of its phase, and the timestamp that it draws is 2^64 or more
abbrev pub IsOverdrawn : ℕ → Stage → PhaseEnd AnyRow → ℕ → Type 0
IsOverdrawn id (Drawing name wish) (Row value) now = 2 ^ 64 ≤ (drawn id value now).ts
IsOverdrawn id stage end now = ⊥
