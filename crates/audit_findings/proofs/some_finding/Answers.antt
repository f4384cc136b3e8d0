use Rattle.audit_findings.proofs.Some.{found}
use Rattle.audit_findings.proofs.some_finding.Goals as goal

pub returns : goal.returns
returns c = λ input text events is.
    found c.texts_give_one_account.ensures.some c.texts_are_judged.ensures.fresh c.texts_are_judged.ensures.lawful events
    (λ other saids history readable fresh lawful. c.each_run_is_found.ensures events other saids history (c.schedules_are_within_limits.ensures input events is) readable fresh lawful) text
