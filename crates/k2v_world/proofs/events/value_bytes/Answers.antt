use Rattle.store_model.specs.Events.{object_bytes}
use Rattle.k2v_world.proofs.Values.{more_bytes}
use Rattle.k2v_world.proofs.events.value_bytes.Goals as goal

pub loop-i-preserved : goal.loop-i-preserved
loop-i-preserved c =
    rw c.in_ok-push.ensures.ok (more_bytes c.loop-i.bytes (object_bytes c.args.size c.args.fill) c.args.size c.loop-i.i c.args.fill _ (cc) c.loop-i-test.true c.loop-i.invariant)
