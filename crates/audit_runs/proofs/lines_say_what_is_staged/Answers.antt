use Rattle.audit_runs.proofs.Staging.{said_so}
use Rattle.audit_runs.proofs.lines_say_what_is_staged.Goals as goal

pub returns : goal.returns
returns c = said_so c.events_stage_what_they_say.ensures
