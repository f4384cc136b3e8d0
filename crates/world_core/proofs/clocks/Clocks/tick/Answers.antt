use Rattle.std.proofs.Common.{◌≡◌, length, arith}
use Rattle.world_core.proofs.ClockTimes.{later}
use Rattle.world_core.proofs.clocks.Clocks.tick.Goals as goal

pub returns-clause-ticked : goal.returns-clause-ticked
returns-clause-ticked c =
    let whole : length c.args.self.now.skews ≡ 256 = omega arith in
    later c.args.self.now c.in-Some.time c.args.ms whole c.in-Some.ensures.1 (omega (arith, c.in-Some.ensures)) (λ k within. c.loop-skew.invariant k (omega arith))
