use Rattle.std.proofs.Common.{◌∙◌, sym}
use Rattle.s3_request.proofs.Digits.{number_is_text, refused_no_text, text_is, number_is}
use Rattle.s3_request.proofs.number.number.Goals as goal

pub returns-in_err-ok : goal.returns-in_err-ok
returns-in_err-ok c =
    absurd (refused_no_text c.args.text.now _ _ c.from_utf8.result c.from_utf8.ensures.cases c.in_err-ok.ensures.variant
    (number_is_text c.args.most c.args.text.now (sym c.is_number.ensures ∙ c.if-is_number.true)))

pub returns-in_ok-ok : goal.returns-in_ok-ok
returns-in_ok-ok c =
    let same = text_is c.args.text.now _ c.from_utf8.result c.in_ok-ok.field-0 c.from_utf8.ensures.cases c.in_ok-ok.ensures.value in
    c.ok-then-is_number.ensures.value
    ∙ number_is c.args.most c.args.text.now c.in_ok-ok.field-0.now c.parse.result c.requires (sym c.is_number.ensures ∙ c.if-is_number.true) same c.parse.ensures.value.0
