use Rattle.std.proofs.Common.{arith, ◌-◌}
use Rattle.k2v_api.specs.Turning.{DrainStops}
use Rattle.k2v_api.proofs.Causes.{given_up, wanting}
use Rattle.k2v_api.proofs.Drains.{draining_none, draining_on, drained_early, drained_all, drain_causes}
use Rattle.k2v_api.proofs.steps.drained.Goals as goal

pub loop-left-init : goal.loop-left-init
loop-left-init c = rw c.new-lines.ensures (draining_none c.args.items.now c.args.count c.requires.stands)

pub returns-in_default-clause-delivers : goal.returns-in_default-clause-delivers
returns-in_default-clause-delivers c = drained_early c.args.items.now c.loop-left.items c.loop-left.lines c.loop-left.left c.args.count c.loop-left.invariant (λ s d. c.in_default.ensures s d)

pub returns-in_err-told-clause-causes : goal.returns-in_err-told-clause-causes
returns-in_err-told-clause-causes c =
    given_up c.from_residual.result c.in_err-told.field-0.0 (DrainStops c.args.items.now c.args.count) c.from_residual.ensures.1
    (drain_causes c.args.items.now c.loop-left.items c.loop-left.lines c.loop-left.left (c.loop-left.left - 1) c.args.count c.in-Some.message (omega arith) c.loop-left.invariant (λ s d. c.in-Some.ensures s d)
    c.in_err-told.field-0.0 c.in_err-told.ensures.causes)

pub returns-in_err-append-clause-causes : goal.returns-in_err-append-clause-causes
returns-in_err-append-clause-causes c =
    wanting c.from_residual-in_err-append.result c.in_err-append.field-0.0 (DrainStops c.args.items.now c.args.count) c.from_residual-in_err-append.ensures.1 tt c.in_err-append.ensures.want

pub loop-left-preserved-in_ok-append-10 : goal.loop-left-preserved-in_ok-append-10
loop-left-preserved-in_ok-append-10 c =
    rw c.in_ok-append.ensures.ok.0 (
    draining_on c.args.items.now c.loop-left.items c.loop-left.lines c.loop-left.left (c.loop-left.left - 1) c.args.count c.in-Some.message (omega arith) c.loop-left.invariant
    (λ s d. c.in-Some.ensures s d) c.one_step.new.items c.in_ok-told.told c.in_ok-told.ensures.takes)

pub returns-clause-delivers : goal.returns-clause-delivers
returns-clause-delivers c = drained_all c.args.items.now c.loop-left.items c.loop-left.lines c.loop-left.left c.args.count c.loop-left.invariant (omega arith)
