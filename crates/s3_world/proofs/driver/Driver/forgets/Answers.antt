use Rattle.std.proofs.Common.{None, sym, ◌∙◌, subst}
use Rattle.s3_world.specs.Reads.{IsNeeded}
use Rattle.s3_world.proofs.Kept.{updated}
use Rattle.s3_world.proofs.Forgets.{forgotten}
use Rattle.s3_world.proofs.driver.Driver.forgets.Goals as goal

pub returns-in_default-clause-needed : goal.returns-in_default-clause-needed
returns-in_default-clause-needed g c = subst IsNeeded c.in_default.ensures.value tt

pub returns-then-is_over-clause-same : goal.returns-then-is_over-clause-same
returns-then-is_over-clause-same g c =
    forgotten c.args.self.now _ c.args.request c.in-Some.asked.now (sym c.in-Some.ensures.value) (sym c.is_over.ensures ∙ c.if-is_over.true) (updated c.args.self.now.requests _ c.args.request None c.remove.ensures.updates)

pub returns-then-is_over-clause-needed : goal.returns-then-is_over-clause-needed
returns-then-is_over-clause-needed g c = subst IsNeeded (sym c.remove.ensures.updates.1) tt

pub returns-else-is_over-clause-needed : goal.returns-else-is_over-clause-needed
returns-else-is_over-clause-needed g c = subst IsNeeded c.in-Some.ensures.value (sym c.is_over.ensures ∙ c.if-is_over.false)
