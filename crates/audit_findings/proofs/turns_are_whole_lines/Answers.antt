use Rattle.audit_findings.proofs.Ends.{turns_whole}
use Rattle.audit_findings.proofs.turns_are_whole_lines.Goals as goal

pub returns : goal.returns
returns c = turns_whole
