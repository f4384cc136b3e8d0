use Rattle.store_model.specs.Run.{State}
use Rattle.store_model.specs.Events.{Turn}
use Rattle.audit_runs.proofs.Frames.{event_stages}
use Rattle.audit_runs.proofs.events_stage_what_they_say.Goals as goal

pub returns : goal.returns
returns c = λ (s : State) (t : Turn). event_stages s t.numbered.event t.choice
