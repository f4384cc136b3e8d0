use Rattle.audit_runs.proofs.Cuts.{same_events, same_states, same_end, go_on_together}
use Rattle.audit_runs.proofs.cuts_change_no_run.Goals as goal

pub returns : goal.returns
returns c = record { events = same_events; states = same_states; end = same_end; go_on = go_on_together }
