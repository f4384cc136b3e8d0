use Rattle.std.specs.Prelude.{IsUtf8}
use Rattle.std.proofs.Common.{◌∙◌}
use Rattle.std.proofs.lemmas.Result.{IfOk-weaker}
use Rattle.layout_text.specs.Settings.{settings_of}
use Rattle.layout_command.specs.Answer.{IsLaidOut, IsAnswer, laid_out, bad_field}
use Rattle.layout_command.proofs.reply.answer_text.Goals as goal

pub returns-in-Ok-clause-stated : goal.returns-in-Ok-clause-stated
returns-in-Ok-clause-stated c =
    IfOk-weaker c.lay_out.result (λ reply. IsLaidOut (settings_of c.in-Ok.config) reply.status reply.text) (λ reply. IsUtf8 c.args.text.now → IsAnswer c.args.text.now reply.status reply.text)
    (λ reply h u. laid_out (settings_of c.in-Ok.config) u c.in-Ok.ensures.config h) c.lay_out.ensures.stated

pub returns-in_ok-bad_field-in-Err-Field-clause-stated : goal.returns-in_ok-bad_field-in-Err-Field-clause-stated
returns-in_ok-bad_field-in-Err-Field-clause-stated c = λ u.
    bad_field c.in-Err-Field.name u (rw c.in-Err-Field.field-0-is at c.in-Err-Field.ensures.fault) c.refused-in-Err-Field.ensures.status (c.refused-in-Err-Field.ensures.text ∙ c.in_ok-bad_field-in-Err-Field.ensures.text)
