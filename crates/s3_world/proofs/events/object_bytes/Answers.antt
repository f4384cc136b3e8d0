use Rattle.store_model.specs.Events.{object_bytes}
use Rattle.s3_world.proofs.Objects.{more_bytes}
use Rattle.s3_world.proofs.events.object_bytes.Goals as goal

pub loop-i-preserved : goal.loop-i-preserved
loop-i-preserved c =
    rw c.in_ok-push.ensures.ok (more_bytes c.loop-i.bytes (object_bytes c.args.size c.args.fill) c.args.size c.loop-i.i c.args.fill _ (cc) c.loop-i-test.true c.loop-i.invariant)
