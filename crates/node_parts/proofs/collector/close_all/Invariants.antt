use Rattle.std.proofs.Common.{◌≡◌, drop}
use Rattle.node_parts.specs.Collects.{closed_all}
use Rattle.node_parts.proofs.collector.close_all.Given as goal

abbrev pub invariant-loop-number : goal.invariant-loop-number
invariant-loop-number l = closed_all (drop l.number-index l.numbers) l.gc ≡ closed_all l.numbers l.fn.gc
