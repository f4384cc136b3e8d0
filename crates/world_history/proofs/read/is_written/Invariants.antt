use Rattle.std.proofs.Common.{◌≤◌}
use Rattle.world_history.proofs.Sought.{NoneWrites}
use Rattle.world_history.proofs.read.is_written.Given as goal

-- no entry so far passes
abbrev pub invariant-loop-k : goal.invariant-loop-k
invariant-loop-k l = record {
  none : NoneWrites l.index.records.now l.order l.bucket l.key l.v l.low l.k;
  from : l.low ≤ l.k;
}
