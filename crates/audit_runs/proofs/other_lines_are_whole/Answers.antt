use Rattle.audit_runs.proofs.Tellings.{line_is}
use Rattle.audit_runs.proofs.other_lines_are_whole.Goals as goal

pub returns : goal.returns
returns c = line_is
