use Rattle.audit_runs.proofs.Ascend.{schedule_ascends}
use Rattle.audit_runs.proofs.schedules_ascend.Goals as goal

pub returns : goal.returns
returns c = schedule_ascends
