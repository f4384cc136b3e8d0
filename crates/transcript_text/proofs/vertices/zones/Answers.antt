use Rattle.std.proofs.lemmas.Result.{err_from_is_err_and}
use Rattle.transcript_text.proofs.Lists.{zone_unread}
use Rattle.transcript_text.proofs.vertices.zones.Goals as goal

pub returns-in_err-zone : goal.returns-in_err-zone
returns-in_err-zone c =
    let p = err_from_is_err_and c.from_residual.result c.from_residual.ensures.1 in
    rw (p.1, p.2) (zone_unread c.args.words.now c.loop-word.word-index c.loop-word-test.true c.in_err-zone.field-0.0 c.in_err-zone.ensures)
