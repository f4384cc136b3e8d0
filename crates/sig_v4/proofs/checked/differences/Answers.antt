use Rattle.std.proofs.Common.{refl, sym, ◌∙◌, arith}
use Rattle.sig_v4.proofs.Same.{same_step, same_end}
use Rattle.sig_v4.proofs.checked.differences.Goals as goal

pub loop-i-preserved : goal.loop-i-preserved
loop-i-preserved c =
    same_step c.args.given.now c.args.due.now c.loop-i.i c.loop-i.difference _ _ 0 0 c.loop-i-test.true (omega (arith, c.loop-i-test.true, c.requires)) refl refl ∙ c.loop-i.invariant

pub returns : goal.returns
returns c =
    sym (same_end c.args.given.now c.args.due.now c.loop-i.i c.loop-i.difference (omega (arith, c.loop-i-test.false)) (omega (arith, c.loop-i-test.false, c.requires))) ∙ c.loop-i.invariant
