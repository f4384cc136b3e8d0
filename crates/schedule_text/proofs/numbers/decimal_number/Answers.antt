use Rattle.std.proofs.Common.{◌∙◌}
use Rattle.schedule_text.proofs.Digits.{no_text, text_is, no_number, not_spelled}
use Rattle.schedule_text.proofs.numbers.decimal_number.Goals as goal

pub returns-in_err-ok : goal.returns-in_err-ok
returns-in_err-ok c =
    rw c.from_residual.ensures (no_text c.args.word.now _ _ c.from_utf8.result c.from_utf8.ensures.cases c.in_err-ok.ensures.variant)

pub returns-in_err-n : goal.returns-in_err-n
returns-in_err-n c =
    let same = text_is c.args.word.now _ c.from_utf8.result c.in_ok-ok.field-0 c.from_utf8.ensures.cases c.in_ok-ok.ensures.value in
    rw c.from_residual-in_err-n.ensures (no_number c.args.word.now c.in_ok-ok.field-0.now c.parse.result c.parse.ensures.value.0 same c.in_err-n.ensures.variant)

pub returns-else-eq : goal.returns-else-eq
returns-else-eq c =
    let same = text_is c.args.word.now _ c.from_utf8.result c.in_ok-ok.field-0 c.from_utf8.ensures.cases c.in_ok-ok.ensures.value in
    not_spelled c.args.word.now c.in_ok-ok.field-0.now c.parse.result c.in_ok-n.n c.as_bytes.result.now c.parse.ensures.value.0 same c.in_ok-n.ensures.value (c.as_bytes.ensures.value ∙ c.format.ensures.text) c.if-eq.ensures
