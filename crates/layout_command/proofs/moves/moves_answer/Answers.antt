use Rattle.std.specs.Prelude.{IsUtf8}
use Rattle.std.proofs.lemmas.Result.{IfOk-weaker}
use Rattle.layout_command.specs.Moves.{IsMovesAnswer}
use Rattle.layout_command.proofs.moves.moves_answer.Goals as goal

pub returns-in-Ok-clause-stated : goal.returns-in-Ok-clause-stated
returns-in-Ok-clause-stated c =
    IfOk-weaker c.moves_answer_text.result (λ reply. IsUtf8 c.in-Ok.text.now → IsMovesAnswer c.in-Ok.text.now reply.status reply.text) (λ reply. IsMovesAnswer c.args.input.now reply.status reply.text)
    (λ reply h. rw c.in-Ok.ensures.cases.0 at (h (rw c.in-Ok.ensures.cases.0 c.in-Ok.ensures.cases.1))) c.moves_answer_text.ensures.stated
