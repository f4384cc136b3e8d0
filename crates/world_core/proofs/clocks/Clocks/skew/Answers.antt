use Rattle.std.proofs.Common.{◌≤◌, ◌+◌, ◌^◌, refl, arith}
use Rattle.std.proofs.lemmas.Grind.{common_steps}
use Rattle.world_core.proofs.ClockTimes.{too_late}
use Rattle.world_core.proofs.clocks.Clocks.skew.Goals as goal

pub returns-then-is_none-clause-full : goal.returns-then-is_none-clause-full
returns-then-is_none-clause-full c =
    let late : 2 ^ 64 ≤ c.args.self.now.time + c.args.ms = grind (arith, common_steps) in
    (refl, too_late c.args.self.now c.args.node c.args.ms late)
