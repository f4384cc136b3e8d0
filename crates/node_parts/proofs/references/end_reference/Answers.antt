use Rattle.std.proofs.Common.{◌≡◌, arith}
use Rattle.block_store.specs.Contents.{live_count}
use Rattle.node_parts.proofs.KeptBlocks.{dead_none}
use Rattle.node_parts.proofs.references.end_reference.Goals as goal

pub returns-else-count-gt0 : goal.returns-else-count-gt0
returns-else-count-gt0 c =
    let none : live_count c.args.blocks.now c.args.hash.now ≡ 0 = omega (arith, c.count.ensures, c.if-count-gt0.false) in
    dead_none c.args.blocks.now c.args.hash.now c.args.now none
