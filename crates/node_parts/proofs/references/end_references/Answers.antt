use Rattle.node_parts.proofs.Ended.{ended_next}
use Rattle.node_parts.proofs.references.end_references.Goals as goal

pub loop-hash-preserved : goal.loop-hash-preserved
loop-hash-preserved c =
    ended_next c.args.now c.args.blocks.now c.loop-hash.blocks c.end_reference.new.blocks c.args.hashes.now c.loop-hash.hash-index _ c.loop-hash-test.true c.loop-hash.invariant c.end_reference.ensures
