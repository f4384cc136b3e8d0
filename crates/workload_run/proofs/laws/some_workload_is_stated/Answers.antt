use Rattle.replay_run.specs.declared.account.Account.TheVariants.{Summary}
use Rattle.workload.specs.Schedule.{schedule}
use Rattle.workload.proofs.Allowed.{schedule_is_within}
use Rattle.workload_run.proofs.laws.some_workload_is_stated.Goals as goal

pub returns : goal.returns
returns c = λ count seed few. c.every_replay_ends.ensures (Summary count seed) (schedule count seed) (schedule_is_within count seed few)
