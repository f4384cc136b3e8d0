use Rattle.std.proofs.lemmas.Result.{err_from_is_err_and}
use Rattle.schedule_text.specs.Kinds.{texts}
use Rattle.transcript_text.proofs.Inverse.{sent_unread}
use Rattle.transcript_text.proofs.line.sent.Goals as goal

pub returns-in_err-number : goal.returns-in_err-number
returns-in_err-number c =
    let p = err_from_is_err_and c.from_residual.result c.from_residual.ensures.1 in
    rw (p.1, p.2) (sent_unread (texts c.args.words.now) c.in_err-number.field-0.0 c.in_err-number.ensures)
