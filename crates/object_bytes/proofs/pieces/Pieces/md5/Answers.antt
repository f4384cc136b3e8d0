use Rattle.std.proofs.Common.{◌∙◌, subst}
use Rattle.md5.specs.Md5.{Holds}
use Rattle.object_bytes.proofs.Joined.{joined_next}
use Rattle.object_bytes.proofs.pieces.Pieces.md5.Goals as goal

pub loop-block-preserved : goal.loop-block-preserved
loop-block-preserved c whole held =
    subst (λ bytes. Holds c.update-in-loop-block.new.self bytes) (joined_next whole c.as_slice-block-items.result.now c.loop-block.block-index c.as_slice-in-loop-block.result.now c.block-item.result c.loop-block-test.true (c.as_slice-in-loop-block.ensures ∙ c.block-item.is)) (c.update-in-loop-block.ensures _ (c.loop-block.invariant whole held))
