use Rattle.k2v_limits.proofs.Scheduled.{schedule_is_within}
use Rattle.k2v_limits.proofs.item_schedules_are_within_limits.Goals as goal

pub returns : goal.returns
returns c = schedule_is_within
