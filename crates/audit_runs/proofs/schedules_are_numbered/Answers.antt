use Rattle.audit_runs.proofs.Numbers.{schedule_numbered}
use Rattle.audit_runs.proofs.schedules_are_numbered.Goals as goal

pub returns : goal.returns
returns c = schedule_numbered
