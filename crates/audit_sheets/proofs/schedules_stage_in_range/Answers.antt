use Rattle.audit_sheets.proofs.Staged.{nothing_in_range, stages_in_range}
use Rattle.audit_sheets.proofs.schedules_stage_in_range.Goals as goal

pub returns : goal.returns
returns c = record { first = nothing_in_range; next = stages_in_range }
