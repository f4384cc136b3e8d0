use Rattle.std.proofs.Common.{◌∙◌}
use Rattle.sig_request.proofs.Joined.{join_next}
use Rattle.sig_request.proofs.texts.joined_after.Goals as goal

pub loop-other-preserved : goal.loop-other-preserved
loop-other-preserved c =
    rw (c.in_ok-extend_from_slice.ensures.ok, c.in_ok-push.ensures.ok, c.as_slice.ensures) (join_next c.args.separator c.loop-other.text c.args.others.now c.loop-other.other-index c.other-item.result _ c.loop-other-test.true c.other-item.is ∙ c.loop-other.invariant)
