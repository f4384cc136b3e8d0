use Rattle.audit_laws.proofs.Shown.{same_state}
use Rattle.audit_laws.proofs.cuts_change_no_state.Goals as goal

pub returns : goal.returns
returns c = same_state
