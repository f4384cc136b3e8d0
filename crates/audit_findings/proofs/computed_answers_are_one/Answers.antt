use Rattle.audit_findings.proofs.Computed.{one_answer}
use Rattle.audit_findings.proofs.computed_answers_are_one.Goals as goal

pub returns : goal.returns
returns c = λ roles wanted version choice other h k. one_answer c.smaller_sizes.ensures roles wanted version choice other h k
