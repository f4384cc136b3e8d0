use Rattle.std.proofs.Common.{sym, IsTrue, subst}
use Rattle.std.specs.Prelude.{is_some}
use Rattle.block_store.specs.Contents.{Contents, block_at}
use Rattle.node_parts.proofs.KeptBlocks.{put_there}
use Rattle.node_parts.proofs.references.keep.Goals as goal

pub returns-in-Ok-clause-there : goal.returns-in-Ok-clause-there
returns-in-Ok-clause-there c =
    subst (λ (k : Contents). IsTrue (is_some (block_at k c.args.hash.now))) (sym c.in-Ok.ensures.ok) (put_there c.args.blocks.now c.args.hash.now c.in_ok-share.field-0)
