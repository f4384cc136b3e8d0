use Rattle.std.proofs.Common.{arith}
use Rattle.control_model.specs.World.{empty}
use Rattle.control_model.proofs.Reaching.{reached_empty, reached_run}
use Rattle.version_laws.specs.Example.{plan_reading, applied, acknowledged, synchronized, cleaned_up, after_apply, before_reading, after_reading}
use Rattle.version_laws.proofs.example.a_version_is_dropped.Goals as goal

pub returns-clause-reached : goal.returns-clause-reached
returns-clause-reached c =
    reached_run plan_reading 2 cleaned_up after_reading (reached_run plan_reading 2 synchronized before_reading (reached_run plan_reading 2 acknowledged after_apply (reached_run plan_reading 2 applied empty (reached_empty plan_reading 2 (omega arith)))))
