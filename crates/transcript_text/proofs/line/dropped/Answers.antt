use Rattle.std.proofs.lemmas.Result.{err_from_is_err_and}
use Rattle.schedule_text.specs.Kinds.{texts}
use Rattle.transcript_text.proofs.Inverse.{dropped_unread}
use Rattle.transcript_text.proofs.line.dropped.Goals as goal

pub returns-in_err-node : goal.returns-in_err-node
returns-in_err-node c =
    let p = err_from_is_err_and c.from_residual.result c.from_residual.ensures.1 in
    rw (p.1, p.2) (dropped_unread (texts c.args.words.now) c.in_err-node.field-0.0 c.in_err-node.ensures)
