use Rattle.std.proofs.lemmas.List.{take_rest}
use Rattle.std.proofs.lemmas.Result.{err_from_is_err_and}
use Rattle.transcript_text.proofs.Inverse.{told_unread, name_unread}
use Rattle.transcript_text.proofs.event.event.Goals as goal

pub returns-in_err-told : goal.returns-in_err-told
returns-in_err-told c =
    let p = err_from_is_err_and c.from_residual-in_err-told.result c.from_residual-in_err-told.ensures.1 in
    rw (p.1, p.2) (told_unread c.args.words.now _ c.in-len2-up.len_at_least (take_rest c.args.words.now 2) c.in_err-told.field-0.0 c.in_err-told.ensures)

pub returns-in_err-name : goal.returns-in_err-name
returns-in_err-name c =
    let p = err_from_is_err_and c.from_residual-in_err-name.result c.from_residual-in_err-name.ensures.1 in
    rw (p.1, p.2) (name_unread c.args.words.now c.in-len2-up.len_at_least c.in_err-name.field-0.0 c.in_err-name.ensures)
