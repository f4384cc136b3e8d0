use Rattle.std.proofs.lemmas.List.{take_rest}
use Rattle.std.proofs.lemmas.Result.{err_from_is_err_and}
use Rattle.transcript_text.proofs.Inverse.{answer_unread}
use Rattle.transcript_text.proofs.answers.finished.Goals as goal

pub returns-in_err-answer : goal.returns-in_err-answer
returns-in_err-answer c =
    let p = err_from_is_err_and c.from_residual-in_err-answer.result c.from_residual-in_err-answer.ensures.1 in
    rw (p.1, p.2) (answer_unread c.args.words.now _ c.in-len2-up.len_at_least (take_rest c.args.words.now 2) c.in_ok-word.word c.in_ok-word.ensures c.in_err-answer.field-0.0 c.in_err-answer.ensures)
