use Rattle.std.proofs.lemmas.Result.{err_from_is_err_and}
use Rattle.schedule_text.specs.Kinds.{texts}
use Rattle.transcript_text.proofs.Inverse.{side_unread}
use Rattle.transcript_text.proofs.line.side.Goals as goal

pub returns-in_err-first : goal.returns-in_err-first
returns-in_err-first c =
    let p = err_from_is_err_and c.from_residual.result c.from_residual.ensures.1 in
    rw (p.1, p.2) (side_unread (texts c.args.words.now) c.in_err-first.field-0.0 c.in_err-first.ensures)
