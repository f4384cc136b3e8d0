use Rattle.std.proofs.Common.{ap}
use Rattle.std.proofs.lemmas.List.{take_rest}
use Rattle.std.proofs.lemmas.Result.{err_from_is_err_and}
use Rattle.schedule_text.specs.Kinds.{texts}
use Rattle.transcript_text.proofs.Inverse.{zones_unread}
use Rattle.transcript_text.proofs.vertices.side_run.Goals as goal

pub returns-in_err-zones : goal.returns-in_err-zones
returns-in_err-zones c =
    let p = err_from_is_err_and c.from_residual-in_err-zones.result c.from_residual-in_err-zones.ensures.1 in
    rw (p.1, p.2) (zones_unread c.args.words.now _ (texts c.behind-up.result.1.now) (texts c.behind-down.result.1.now) c.behind-up.result.0 c.behind-down.result.0
    c.in-len2-up.len_at_least (ap texts (take_rest c.args.words.now 2)) c.behind-up.ensures.whole c.behind-up.ensures.begins c.behind-down.ensures.whole c.behind-down.ensures.begins
    c.in_err-zones.field-0.0 c.in_err-zones.ensures)
