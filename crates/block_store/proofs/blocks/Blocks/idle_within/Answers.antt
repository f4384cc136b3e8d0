use Rattle.std.proofs.Common.{subst}
use Rattle.std.proofs.lemmas.Result.{IfOk-weaker}
use Rattle.block_store.specs.Shelf.{contents}
use Rattle.block_store.specs.Moments.{AreMoments}
use Rattle.block_store.proofs.InOrder.{in_order}
use Rattle.block_store.proofs.blocks.Blocks.idle_within.Goals as goal

pub returns-in-Some-clause-notes : goal.returns-in-Some-clause-notes
returns-in-Some-clause-notes c =
    let kept = contents c.self.inside.shelf in
    let tied = subst (λ m. AreMoments m kept) c.in-Some.is c.self.invariant.tied in
    rw (← c.self.view_is)
    (IfOk-weaker c.take_within.result _ _ (λ v is. is kept tied (in_order c.self.inside.shelf.entries c.self.invariant.ordered)) c.take_within.ensures.idle)

pub returns-in-Some-clause-in_order : goal.returns-in-Some-clause-in_order
returns-in-Some-clause-in_order c = rw (← c.self.view_is) (in_order c.self.inside.shelf.entries c.self.invariant.ordered)

pub returns-in-None-clause-in_order : goal.returns-in-None-clause-in_order
returns-in-None-clause-in_order c = rw (← c.self.view_is) (in_order c.self.inside.shelf.entries c.self.invariant.ordered)
