use Rattle.audit_run.proofs.Stated.{some_stated}
use Rattle.audit_run.proofs.laws.some_audit_is_stated.Goals as goal

pub returns : goal.returns
returns c = some_stated c.every_text_reads.ensures.texts c.some_finding.ensures
