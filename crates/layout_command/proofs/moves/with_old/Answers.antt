use Rattle.std.specs.Prelude.{IsUtf8}
use Rattle.std.proofs.Common.{◌∙◌}
use Rattle.std.proofs.lemmas.Result.{IfOk-weaker}
use Rattle.layout_text.specs.Settings.{settings_of}
use Rattle.layout_command.specs.Answer.{greatest_node}
use Rattle.layout_command.specs.Moves.{IsMoved, IsMovesAnswer, bad_old, laid_out}
use Rattle.layout_text.proofs.OldRuns.{is_document}
use Rattle.layout_command.proofs.moves.with_old.Goals as goal

pub unreachable-requires : goal.unreachable-requires
unreachable-requires c = is_document greatest_node c.args.text.now (settings_of c.args.config.now) c.requires.said (rw c.in-Err-NotToml.field-0-is at c.in-Err-NotToml.ensures.fault)

pub returns-in-Ok-clause-stated : goal.returns-in-Ok-clause-stated
returns-in-Ok-clause-stated c =
    IfOk-weaker c.move_copies.result (λ reply. IsMoved (settings_of c.args.config.now) c.in-Ok.old.sets reply.status reply.text) (λ reply. IsUtf8 c.args.text.now → IsMovesAnswer c.args.text.now reply.status reply.text)
    (λ reply h u. laid_out (settings_of c.args.config.now) c.in-Ok.old.sets u c.requires.said c.in-Ok.ensures.sets h) c.move_copies.ensures.stated

pub returns-in_ok-bad_field-in-Err-Field-clause-stated : goal.returns-in_ok-bad_field-in-Err-Field-clause-stated
returns-in_ok-bad_field-in-Err-Field-clause-stated c = λ u.
    bad_old (settings_of c.args.config.now) c.in-Err-Field.name u c.requires.said (rw c.in-Err-Field.field-0-is at c.in-Err-Field.ensures.fault) c.refused.ensures.status (c.refused.ensures.text ∙ c.in_ok-bad_field-in-Err-Field.ensures.text)
