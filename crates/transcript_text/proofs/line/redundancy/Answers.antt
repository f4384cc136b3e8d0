use Rattle.std.proofs.lemmas.Result.{err_from_is_err_and}
use Rattle.schedule_text.specs.Kinds.{texts}
use Rattle.transcript_text.proofs.Inverse.{redundancy_unread}
use Rattle.transcript_text.proofs.line.redundancy.Goals as goal

pub returns-in_err-zones : goal.returns-in_err-zones
returns-in_err-zones c =
    let p = err_from_is_err_and c.from_residual.result c.from_residual.ensures.1 in
    rw (p.1, p.2) (redundancy_unread (texts c.args.words.now) c.in_err-zones.field-0.0 c.in_err-zones.ensures)
