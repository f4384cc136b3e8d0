use Rattle.std.proofs.Common.{arith}
use Rattle.std.proofs.lemmas.Bool.{ltb-true, ltb-false}
use Rattle.transcript_text.proofs.Inverse.{begins_not, fails}
use Rattle.transcript_text.proofs.vertices.behind.Goals as goal
use Rattle.transcript_text.proofs.vertices.behind.Goals.{in_default-via-then-words-lt1, in_default-via-in-len1-up+else-is}

pub returns-in_default-clause-begins : goal.returns-in_default-clause-begins
returns-in_default-clause-begins c =
    elim c.in_default.branch [
      | in_default-via-then-words-lt1 w ↦ begins_not c.args.words.now c.args.name.now (λ some same. absurd (omega (arith, ltb-true, ltb-false)))
      | in_default-via-in-len1-up+else-is w ↦ begins_not c.args.words.now c.args.name.now (λ some. fails w.is.result w.is.ensures w.if-is.false)
    ]
