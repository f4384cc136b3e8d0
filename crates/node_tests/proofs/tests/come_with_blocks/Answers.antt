use Rattle.std.proofs.Common.{subst}
use Rattle.blake2_hash.specs.Blake2b.{blake2b}
use Rattle.cluster_machine.specs.Blocks.{IsRowWithBlock}
use Rattle.object_schema.specs.Schema.{words}
use Rattle.node_tests.proofs.WithBlocks.{all_more}
use Rattle.node_tests.proofs.tests.come_with_blocks.Goals as goal

pub loop-stored-preserved : goal.loop-stored-preserved
loop-stored-preserved c =
    all_more (IsRowWithBlock (blake2b 32) words) c.args.rows.now c.loop-stored.stored-index c.stored-item.result c.loop-stored-test.true c.loop-stored.invariant
    (subst (IsRowWithBlock (blake2b 32) words) c.stored-item.is (c.in_ok-comes_with_block.ensures c.if-not-branch.false))
