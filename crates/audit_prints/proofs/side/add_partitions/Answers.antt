use Rattle.audit_prints.specs.Sides.{partition_part}
use Rattle.audit_prints.proofs.Named.{parts_more}
use Rattle.audit_prints.proofs.side.add_partitions.Goals as goal

pub loop-k-preserved : goal.loop-k-preserved
loop-k-preserved c =
    parts_more (partition_part c.args.up c.args.down c.args.zones.now) c.args.side.now c.loop-k.side c.add_partition.new.side c.args.first c.loop-k.k c.loop-k.invariant c.in_ok-add_partition.ensures.ok
