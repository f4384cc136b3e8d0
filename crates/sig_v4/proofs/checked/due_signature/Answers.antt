use Rattle.std.proofs.Common.{ap, ◌∙◌}
use Rattle.sig_v4.specs.Claims.{day_of}
use Rattle.sig_v4.proofs.Due.{due_is}
use Rattle.sig_v4.proofs.checked.due_signature.Goals as goal

pub returns-clause-signature : goal.returns-clause-signature
returns-clause-signature c =
    due_is c.args.head.now c.args.secret.now c.args.region.now c.args.claim.now c.as_slice-time.result.now c.day_of-day.result.now c.in_ok-request.request c.in_ok-text.text c.in_ok-due.due
    c.as_slice-time.ensures
    (c.day_of-day.ensures ∙ ap day_of c.as_slice-time.ensures)
    (rw (c.as_slice.ensures, c.as_slice-2.ensures) at c.in_ok-request.ensures.text)
    (rw c.as_slice-3.ensures at c.in_ok-text.ensures.text)
    (rw c.as_slice-4.ensures at c.in_ok-due.ensures.signature)
