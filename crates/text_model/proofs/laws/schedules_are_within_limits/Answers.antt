use Rattle.text_model.proofs.Scheduled.{schedule_is_within}
use Rattle.text_model.proofs.laws.schedules_are_within_limits.Goals as goal

pub returns : goal.returns
returns c = schedule_is_within
