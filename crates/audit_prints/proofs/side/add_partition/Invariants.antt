use Rattle.std.proofs.Common.{◌≡◌, ◌++◌, take}
use Rattle.audit_prints.specs.Sides.{partition_part}
use Rattle.audit_prints.proofs.side.add_partition.Given as goal

abbrev pub invariant-loop-zone : goal.invariant-loop-zone
invariant-loop-zone l = l.side ≡ l.fn.side ++ partition_part l.up l.down (take l.zone-index l.zones) l.p
