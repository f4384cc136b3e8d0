use Rattle.std.proofs.Common.{ℕ, ◌<◌, ◌+◌, ◌^◌, get_or}
use Rattle.world_core.proofs.clocks.Clocks.tick.Given as goal

abbrev pub invariant-loop-skew : goal.invariant-loop-skew
invariant-loop-skew l = (k : ℕ) → k < l.skew-index → l.time + get_or l.skew-items k 0 < 2 ^ 64
