use Rattle.std.proofs.Common.{inl, inr, arith}
use Rattle.std.proofs.lemmas.Bool.{ltb-true, ltb-false}
use Rattle.k2v_lines.proofs.Requests.{get_few}
use Rattle.k2v_lines.proofs.line.get.Goals as goal
use Rattle.k2v_lines.proofs.line.get.Goals.{in_default-via-then-words-lt4, in_default-via-else-words-lt4+else-words-lt5}

pub returns-in_default : goal.returns-in_default
returns-in_default c =
    elim c.in_default.branch [
      | in_default-via-then-words-lt4 w ↦ get_few c.args.words.now (inl (omega (arith, ltb-true, ltb-false)))
      | in_default-via-else-words-lt4+else-words-lt5 w ↦ get_few c.args.words.now (inr (omega (arith, ltb-true, ltb-false)))
    ]
