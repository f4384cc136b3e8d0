use Rattle.std.proofs.Common.{◌≡◌, length}
use Rattle.bench.proofs.schedule.schedule.Given as goal

abbrev pub invariant-loop-i : goal.invariant-loop-i
invariant-loop-i l = length l.lines.items ≡ l.i
