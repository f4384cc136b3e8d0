use Rattle.audit_model.specs.Printed.{sets_from}
use Rattle.audit_prints.proofs.Given.{went_on, went_over, went_high}
use Rattle.audit_prints.proofs.sets.sets_in.Goals as goal

pub returns-in-Over-clause-some : goal.returns-in-Over-clause-some
returns-in-Over-clause-some c =
    went_over c.args.saids.now c.loop-said.said-index c.said-item.result c.loop-said-test.true c.said-item.is c.loop-said.sets c.add_line.new.sets (sets_from 0 c.args.saids.now) c.in_ok-add_line.field-0 c.in_ok-add_line.ensures.went c.loop-said.invariant
    c.in-Over.is

pub returns-in-High-clause-none : goal.returns-in-High-clause-none
returns-in-High-clause-none c =
    went_high c.args.saids.now c.loop-said.said-index c.said-item.result c.loop-said-test.true c.said-item.is c.loop-said.sets c.add_line.new.sets (sets_from 0 c.args.saids.now) c.in_ok-add_line.field-0 c.in_ok-add_line.ensures.went c.loop-said.invariant
    c.in-High.is

pub loop-said-preserved : goal.loop-said-preserved
loop-said-preserved c =
    went_on c.args.saids.now c.loop-said.said-index c.said-item.result c.loop-said-test.true c.said-item.is c.loop-said.sets c.add_line.new.sets (sets_from 0 c.args.saids.now) c.in_ok-add_line.field-0 c.in_ok-add_line.ensures.went c.loop-said.invariant
    c.in-On.is
