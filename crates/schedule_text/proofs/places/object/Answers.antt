use Rattle.std.proofs.Common.{inl, inr, arith}
use Rattle.std.proofs.lemmas.Bool.{ltb-true, ltb-false}
use Rattle.std.proofs.lemmas.Result.{err_from_is_err_and}
use Rattle.schedule_text.proofs.Inverse.{object_few, key_unread}
use Rattle.schedule_text.proofs.places.object.Goals as goal
use Rattle.schedule_text.proofs.places.object.Goals.{in_default-via-then-words-lt2, in_default-via-else-words-lt2+else-words-lt3}

pub returns-in_err-object_key-in-len2 : goal.returns-in_err-object_key-in-len2
returns-in_err-object_key-in-len2 c =
    let p = err_from_is_err_and c.from_residual-in_err-object_key-in-len2.result c.from_residual-in_err-object_key-in-len2.ensures.1 in
    rw (p.1, p.2) (key_unread c.args.words.now c.in-len2.len_at_least c.in-len2.len_below c.in_err-object_key-in-len2.field-0.0 c.in_err-object_key-in-len2.ensures)

pub returns-in_default : goal.returns-in_default
returns-in_default c =
    elim c.in_default.branch [
      | in_default-via-then-words-lt2 w ↦ object_few c.args.words.now (inl (omega (arith, ltb-true, ltb-false)))
      | in_default-via-else-words-lt2+else-words-lt3 w ↦ object_few c.args.words.now (inr (omega (arith, ltb-true, ltb-false)))
    ]
