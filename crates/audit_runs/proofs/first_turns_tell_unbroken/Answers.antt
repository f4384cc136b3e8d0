use Rattle.audit_runs.proofs.Lawful.{first_turns_allowed}
use Rattle.audit_runs.proofs.first_turns_tell_unbroken.Goals as goal

pub returns : goal.returns
returns c = λ events saids turns scheduled lawful first.
    let found = c.first_turns_keep_promises.ensures.beside events saids turns scheduled lawful first in
    c.turns_tell_unbroken.ensures turns found.0 (first_turns_allowed events turns first.later scheduled first.whole) found.1.0 found.1.1
