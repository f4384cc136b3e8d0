use Rattle.std.proofs.Common.{sym}
use Rattle.block_store.proofs.Steps.{count_absent, count_found}
use Rattle.block_store.proofs.blocks.Blocks.count.Goals as goal

pub returns-in-Some : goal.returns-in-Some
returns-in-Some c =
    rw (← c.self.view_is) (sym (count_found c.args.hash.now c.in-Some.kept.now c.self.inside.shelf.entries c.self.invariant.ordered (sym c.in-Some.ensures.value)))

pub returns-in-None : goal.returns-in-None
returns-in-None c =
    rw (← c.self.view_is) (sym (count_absent c.args.hash.now c.self.inside.shelf.entries c.self.invariant.ordered (sym c.in-None.ensures.value)))
