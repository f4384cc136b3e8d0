use Rattle.node_parts.proofs.Deleting.{deletes_next}
use Rattle.node_parts.proofs.references.delete_all.Goals as goal

pub loop-hash-preserved : goal.loop-hash-preserved
loop-hash-preserved c =
    deletes_next c.args.blocks.now c.loop-hash.blocks c.delete.new.self c.args.hashes.now c.loop-hash.hash-index _ c.delete.result c.loop-hash-test.true c.requires.idle c.loop-hash.invariant c.delete.ensures.ok c.delete.ensures.in_use
