use Rattle.std.proofs.lemmas.List.{take_rest}
use Rattle.std.proofs.lemmas.Result.{err_from_is_err_and}
use Rattle.schedule_text.proofs.Inverse.{list_unread}
use Rattle.schedule_text.proofs.line.list.Goals as goal

pub returns-in_err-bucket : goal.returns-in_err-bucket
returns-in_err-bucket c =
    let p = err_from_is_err_and c.from_residual.result c.from_residual.ensures.1 in
    rw (p.1, p.2) (list_unread c.args.words.now _ c.in-len1-up.len_at_least (take_rest c.args.words.now 1) c.in_err-bucket.field-0.0 c.in_err-bucket.ensures)
