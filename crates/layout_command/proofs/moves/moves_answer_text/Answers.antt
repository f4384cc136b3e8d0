use Rattle.std.proofs.Common.{◌∙◌}
use Rattle.layout_text.specs.declared.config.ConfigFault.TheVariants.{Field}
use Rattle.layout_command.specs.Answer.{bad_field}
use Rattle.layout_command.specs.Moves.{no_settings}
use Rattle.layout_command.proofs.StatedMoves.{says_none}
use Rattle.layout_command.proofs.moves.moves_answer_text.Goals as goal

pub returns-in_ok-bad_field-in-Err-Field-clause-stated : goal.returns-in_ok-bad_field-in-Err-Field-clause-stated
returns-in_ok-bad_field-in-Err-Field-clause-stated c = λ u.
    let said = rw c.in-Err-Field.field-0-is at c.in-Err-Field.ensures.fault in
    no_settings (says_none c.args.text.now (Field c.in-Err-Field.name) said)
    (bad_field c.in-Err-Field.name u said c.refused-in-Err-Field.ensures.status (c.refused-in-Err-Field.ensures.text ∙ c.in_ok-bad_field-in-Err-Field.ensures.text))
