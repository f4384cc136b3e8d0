use Rattle.std.proofs.Common.{sym, subst, ap, ◌∙◌, slice_get}
use Rattle.world_history.specs.Index.{IsOrder, place_of}
use Rattle.world_history.proofs.Order.{next_here, next_there}
use Rattle.world_history.proofs.finish.next.Goals as goal

-- the entry of the next place
pub returns-in-Ok : goal.returns-in-Ok
returns-in-Ok c =
    let h = c.args.index.now.records.now in
    next_here h c.as_slice.result.now (subst (IsOrder h) (sym c.as_slice.ensures.value) c.args.index.now.ordered) c.args.i c.args.request c.in-Ok.field-0 c.in-Ok.ensures.bound c.in-Ok.ensures.ok

-- the first entry after it
pub returns-in-Err : goal.returns-in-Err
returns-in-Err c =
    let h = c.args.index.now.records.now in
    c.place_of.ensures
    ∙ (ap (λ order. place_of c.args.request (slice_get order c.in-Err.found)) (c.as_slice-in-Err.ensures.value ∙ sym c.as_slice.ensures.value)
    ∙ next_there h c.as_slice.result.now (subst (IsOrder h) (sym c.as_slice.ensures.value) c.args.index.now.ordered) c.args.i c.args.request c.in-Err.found c.in-Err.ensures.position)
