use Rattle.std.proofs.Common.{ap, ◌++◌, ◌∙◌}
use Rattle.object_bytes.proofs.Joined.{joined_next}
use Rattle.object_bytes.proofs.pieces.Pieces.into_bytes.Goals as goal

pub loop-block-preserved : goal.loop-block-preserved
loop-block-preserved c =
    c.in_ok-extend_from_slice.ensures.ok ∙ ap (λ bytes. bytes ++ c.as_slice.result.now) c.loop-block.invariant
    ∙ joined_next c.self.inside.whole c.as_slice-block-items.result.now c.loop-block.block-index c.as_slice.result.now c.block-item.result c.loop-block-test.true (c.as_slice.ensures ∙ c.block-item.is)
