use Rattle.audit_findings.proofs.Judging.{fresh_or_stale, lawful_or_first}
use Rattle.audit_findings.proofs.texts_are_judged.Goals as goal

pub returns : goal.returns
returns c = record { fresh = fresh_or_stale; lawful = lawful_or_first }
