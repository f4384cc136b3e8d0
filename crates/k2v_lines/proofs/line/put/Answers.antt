use Rattle.std.proofs.Common.{inl, inr, arith}
use Rattle.std.proofs.lemmas.Bool.{ltb-true, ltb-false}
use Rattle.std.proofs.lemmas.Result.{err_from_is_err_and}
use Rattle.k2v_lines.proofs.Requests.{put_few, put_sizeless, put_fillless, put_tokenless, put_read}
use Rattle.k2v_lines.proofs.line.put.Goals as goal
use Rattle.k2v_lines.proofs.line.put.Goals.{in_default-via-then-words-lt7, in_default-via-else-words-lt7+else-words-lt8}

pub returns-in_err-number-in-len7-2 : goal.returns-in_err-number-in-len7-2
returns-in_err-number-in-len7-2 c =
    let p = err_from_is_err_and c.from_residual-in_err-number-in-len7-2.result c.from_residual-in_err-number-in-len7-2.ensures.1 in
    rw (p.1, p.2) (put_sizeless c.args.words.now c.in-len7.len_at_least c.in-len7.len_below c.in_err-number-in-len7-2.field-0.0 c.in_err-number-in-len7-2.ensures)

pub returns-in_err-number-in-len7-3 : goal.returns-in_err-number-in-len7-3
returns-in_err-number-in-len7-3 c =
    let p = err_from_is_err_and c.from_residual-in_err-number-in-len7-3.result c.from_residual-in_err-number-in-len7-3.ensures.1 in
    rw (p.1, p.2) (put_fillless c.args.words.now c.in-len7.len_at_least c.in-len7.len_below c.in_err-number-in-len7-3.field-0.0 c.in_err-number-in-len7-3.ensures)

pub returns-in_err-number-in-len7-4 : goal.returns-in_err-number-in-len7-4
returns-in_err-number-in-len7-4 c =
    let p = err_from_is_err_and c.from_residual-in_err-number-in-len7-4.result c.from_residual-in_err-number-in-len7-4.ensures.1 in
    rw (p.1, p.2) (put_tokenless c.args.words.now c.in-len7.len_at_least c.in-len7.len_below c.in_err-number-in-len7-4.field-0.0 c.in_err-number-in-len7-4.ensures)

pub returns-in_ok-number-in-len7-4 : goal.returns-in_ok-number-in-len7-4
returns-in_ok-number-in-len7-4 c =
    put_read c.args.words.now c.in-len7.len_at_least c.in-len7.len_below c.in_ok-number-in-len7.field-0 c.in_ok-item-in-len7.field-0 c.in_ok-number-in-len7-2.field-0 c.in_ok-number-in-len7-3.field-0
    c.in_ok-number-in-len7-4.field-0 c.in_ok-number-in-len7.ensures c.in_ok-item-in-len7.ensures c.in_ok-number-in-len7-2.ensures c.in_ok-number-in-len7-3.ensures c.in_ok-number-in-len7-4.ensures

pub returns-in_default : goal.returns-in_default
returns-in_default c =
    elim c.in_default.branch [
      | in_default-via-then-words-lt7 w ↦ put_few c.args.words.now (inl (omega (arith, ltb-true, ltb-false)))
      | in_default-via-else-words-lt7+else-words-lt8 w ↦ put_few c.args.words.now (inr (omega (arith, ltb-true, ltb-false)))
    ]
