use Rattle.workload.specs.Duties.{duty_of}
use Rattle.workload.proofs.Ranges.{range_pushed}
use Rattle.workload.proofs.duty.add_duties.Goals as goal

pub loop-node-preserved : goal.loop-node-preserved
loop-node-preserved c =
    range_pushed (duty_of c.args.duty) c.args.first c.loop-node.node c.args.events.now c.loop-node.events c.push.new.self c.event.result c.loop-node.auto.node c.loop-node.invariant c.event.ensures c.in_ok-push.ensures.ok
