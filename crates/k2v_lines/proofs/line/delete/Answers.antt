use Rattle.std.proofs.Common.{inl, inr, arith}
use Rattle.std.proofs.lemmas.Bool.{ltb-true, ltb-false}
use Rattle.std.proofs.lemmas.Result.{err_from_is_err_and}
use Rattle.k2v_lines.proofs.Requests.{delete_few, delete_tokenless, delete_read}
use Rattle.k2v_lines.proofs.line.delete.Goals as goal
use Rattle.k2v_lines.proofs.line.delete.Goals.{in_default-via-then-words-lt5, in_default-via-else-words-lt5+else-words-lt6}

pub returns-in_err-number-in-len5-2 : goal.returns-in_err-number-in-len5-2
returns-in_err-number-in-len5-2 c =
    let p = err_from_is_err_and c.from_residual-in_err-number-in-len5-2.result c.from_residual-in_err-number-in-len5-2.ensures.1 in
    rw (p.1, p.2) (delete_tokenless c.args.words.now c.in-len5.len_at_least c.in-len5.len_below c.in_err-number-in-len5-2.field-0.0 c.in_err-number-in-len5-2.ensures)

pub returns-in_ok-number-in-len5-2 : goal.returns-in_ok-number-in-len5-2
returns-in_ok-number-in-len5-2 c =
    delete_read c.args.words.now c.in-len5.len_at_least c.in-len5.len_below c.in_ok-number-in-len5.field-0 c.in_ok-item-in-len5.field-0 c.in_ok-number-in-len5-2.field-0
    c.in_ok-number-in-len5.ensures c.in_ok-item-in-len5.ensures c.in_ok-number-in-len5-2.ensures

pub returns-in_default : goal.returns-in_default
returns-in_default c =
    elim c.in_default.branch [
      | in_default-via-then-words-lt5 w ↦ delete_few c.args.words.now (inl (omega (arith, ltb-true, ltb-false)))
      | in_default-via-else-words-lt5+else-words-lt6 w ↦ delete_few c.args.words.now (inr (omega (arith, ltb-true, ltb-false)))
    ]
