use Rattle.std.proofs.Common.{◌<◌, sym, subst, ◌∙◌, arith}
use Rattle.world_history.specs.Index.{IsOrder}
use Rattle.world_history.proofs.Sought.{written_some, written_none}
use Rattle.world_history.proofs.read.is_written.Goals as goal

-- an entry of the range that passes
pub returns-then-writes_at : goal.returns-then-writes_at
returns-then-writes_at c =
    let h = c.args.index.now.records.now in
    sym (written_some h c.as_slice-order.result.now (subst (IsOrder h) (sym c.as_slice-order.ensures.value) c.args.index.now.ordered) c.args.bucket.now c.args.key.now c.args.v c.args.j c.entries_before-low.result c.entries_before-high.result
    c.entries_before-high.ensures.bound c.entries_before-low.ensures.point c.entries_before-high.ensures.point c.loop-k.k _ c.loop-k.invariant.from c.loop-k-test.true (sym c.writes_at.ensures ∙ c.if-writes_at.true))

-- none passes
pub returns : goal.returns
returns c =
    let h = c.args.index.now.records.now in
    sym (written_none h c.as_slice-order.result.now (subst (IsOrder h) (sym c.as_slice-order.ensures.value) c.args.index.now.ordered) c.args.bucket.now c.args.key.now c.args.v c.args.j c.entries_before-low.result c.entries_before-high.result
    c.entries_before-high.ensures.bound c.entries_before-low.ensures.point c.entries_before-high.ensures.point
    (λ m d up lt. let upto : m < c.loop-k.k = omega (arith, c.loop-k-test.false, lt) in c.loop-k.invariant.none m d up upto))
