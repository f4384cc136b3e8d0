use Rattle.audit_runs.proofs.Fixed.{runs_fixed}
use Rattle.audit_runs.proofs.prints_fix_runs.Goals as goal

pub returns : goal.returns
returns c = runs_fixed
