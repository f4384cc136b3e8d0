use Rattle.audit_findings.proofs.Choosing.{next_chosen}
use Rattle.audit_findings.proofs.next_turns_can_be_given.Goals as goal

pub returns : goal.returns
returns c = λ events saids others e scheduled lawful played allowed_turns allowed. next_chosen c.lawful_prints_are_greatest.ensures.computed events saids others e lawful played allowed
