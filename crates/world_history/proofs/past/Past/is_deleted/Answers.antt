use Rattle.std.proofs.Common.{◌≤◌, ◌<◌, ◌-◌, IsSorted, sym, subst, ◌∙◌, arith}
use Rattle.world_history.specs.Table.{row_cmp, AreDeletes}
use Rattle.world_history.proofs.Sought.{deleted_some, deleted_none}
use Rattle.world_history.proofs.past.Past.is_deleted.Goals as goal

pub before-low-requires : goal.before-low-requires
before-low-requires c = subst (IsSorted row_cmp) (sym c.as_slice-deletes.ensures.value) c.args.self.now.whole.sorted

pub before-high-requires : goal.before-high-requires
before-high-requires c = subst (IsSorted row_cmp) (sym c.as_slice-deletes.ensures.value) c.args.self.now.whole.sorted

-- a row of the range that passes
pub returns-then-deletes_at : goal.returns-then-deletes_at
returns-then-deletes_at c =
    let h = c.args.self.now.table.index.records.now in
    let from : c.before-low.result ≤ c.loop-k.k - 1 = omega (arith, c.loop-k-test.true) in
    let upto : c.loop-k.k - 1 < c.before-high.result = omega (arith, c.loop-k-test.true, c.loop-k.auto.k) in
    sym (deleted_some h c.as_slice-deletes.result.now (subst (AreDeletes h) (sym c.as_slice-deletes.ensures.value) c.args.self.now.whole) c.args.bucket.now c.args.key.now c.args.w c.args.j c.before-low.result c.before-high.result
    c.before-high.ensures.bound c.before-low.ensures.point c.before-high.ensures.point (c.loop-k.k - 1) c.index-deletes-k.result from upto (sym c.deletes_at.ensures ∙ c.if-deletes_at.true))

-- none passes
pub returns : goal.returns
returns c =
    let h = c.args.self.now.table.index.records.now in
    sym (deleted_none h c.as_slice-deletes.result.now (subst (AreDeletes h) (sym c.as_slice-deletes.ensures.value) c.args.self.now.whole) c.args.bucket.now c.args.key.now c.args.w c.args.j c.before-low.result c.before-high.result
    c.before-high.ensures.bound c.before-low.ensures.point c.before-high.ensures.point
    (λ m d up lt. let from : c.loop-k.k ≤ m = omega (arith, c.loop-k-test.false, up) in c.loop-k.invariant m d from lt))
