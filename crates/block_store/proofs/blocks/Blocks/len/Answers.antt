use Rattle.block_store.proofs.InOrder.{in_order}
use Rattle.block_store.proofs.blocks.Blocks.len.Goals as goal

pub returns-clause-in_order : goal.returns-clause-in_order
returns-clause-in_order c =
    rw (← c.self.view_is) (in_order c.self.inside.shelf.entries c.self.invariant.ordered)
