use Rattle.std.proofs.lemmas.Result.{err_from_is_err_and}
use Rattle.transcript_text.proofs.Inverse.{event_unread}
use Rattle.transcript_text.proofs.line.spelled.Goals as goal

pub returns-in_err-line-in-None : goal.returns-in_err-line-in-None
returns-in_err-line-in-None c =
    let p = err_from_is_err_and c.from_residual.result c.from_residual.ensures.1 in
    rw (p.1, p.2) (event_unread c.args.words.now c.in-len1-up.len_at_least c.in-None.ensures c.in_err-line-in-None.field-0.0 c.in_err-line-in-None.ensures)
