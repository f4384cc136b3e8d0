use Rattle.std.proofs.Common.{arith, ◌-◌}
use Rattle.s3_world.proofs.Causes.{handed_on}
use Rattle.s3_world.proofs.Drains.{draining_none, draining_on, drained_early, drained_all, drain_overflows}
use Rattle.s3_world.proofs.driver.Driver.drains.Goals as goal

pub loop-left-init : goal.loop-left-init
loop-left-init g c = rw c.new-lines.ensures (draining_none c.args.heard c.args.self.now c.args.count c.requires.stands)

pub returns-in_default-clause-plays : goal.returns-in_default-clause-plays
returns-in_default-clause-plays g c =
    rw c.accepted.ensures (drained_early c.args.heard c.args.self.now c.loop-left.self c.loop-left.lines c.loop-left.left c.args.count c.loop-left.invariant (λ s d. c.in_default.ensures s.world d.world))

pub returns-in_err-told-clause-causes : goal.returns-in_err-told-clause-causes
returns-in_err-told-clause-causes g c =
    handed_on c.from_residual.result c.in_err-told.field-0.0 c.from_residual.ensures.1
    (drain_overflows c.args.heard c.args.self.now c.loop-left.self c.loop-left.lines c.loop-left.left (c.loop-left.left - 1) c.args.count c.in-Some.message (omega arith) c.loop-left.invariant (λ s d. c.in-Some.ensures s.world d.world))
    c.in_err-told.ensures.causes

pub loop-left-preserved : goal.loop-left-preserved
loop-left-preserved g c =
    rw c.in_ok-append.ensures.ok.0 (
    draining_on c.args.heard c.args.self.now c.loop-left.self c.loop-left.lines c.loop-left.left (c.loop-left.left - 1) c.args.count c.in-Some.message (omega arith) c.loop-left.invariant
    (λ s d. c.in-Some.ensures s.world d.world) c.delivers.new.self c.in_ok-told.told c.in_ok-told.ensures.plays)

pub returns-clause-plays : goal.returns-clause-plays
returns-clause-plays g c =
    rw c.accepted-2.ensures (drained_all c.args.heard c.args.self.now c.loop-left.self c.loop-left.lines c.loop-left.left c.args.count c.loop-left.invariant (omega arith))
