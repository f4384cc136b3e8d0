use Rattle.std.proofs.Common.{◌≡◌, ◌++◌}
use Rattle.std.specs.List.{flat_map, range_with_len}
use Rattle.layout_flow.specs.Closed.{held_in}
use Rattle.layout_flow.proofs.side.add_partitions.Given as goal

abbrev pub invariant-loop-p : goal.invariant-loop-p
invariant-loop-p l = l.side ≡ l.initial.side ++ flat_map (held_in l.down l.zones) (range_with_len 0 l.p)
