use Rattle.std.proofs.Common.{◌≡◌, ◌++◌}
use Rattle.std.specs.List.{flat_map, range_with_len}
use Rattle.audit_prints.specs.Sides.{partition_part}
use Rattle.audit_prints.proofs.side.add_partitions.Given as goal

abbrev pub invariant-loop-k : goal.invariant-loop-k
invariant-loop-k l = l.side ≡ l.fn.side ++ flat_map (partition_part l.up l.down l.zones) (range_with_len l.first l.k)
