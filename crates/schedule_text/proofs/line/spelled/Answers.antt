use Rattle.std.proofs.lemmas.Result.{err_from_is_err_and}
use Rattle.schedule_text.proofs.Inverse.{no_kind}
use Rattle.schedule_text.proofs.line.spelled.Goals as goal

pub returns-in_err-ok_or : goal.returns-in_err-ok_or
returns-in_err-ok_or c =
    let p = err_from_is_err_and c.from_residual.result c.from_residual.ensures.1 in
    rw (p.1, p.2) (no_kind c.args.words.now c.in-len1-up.len_at_least c.kind_of.result c.kind_of.ensures c.in_err-ok_or.ensures.ok_part c.in_err-ok_or.field-0.0)
