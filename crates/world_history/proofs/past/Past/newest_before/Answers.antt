use Rattle.std.proofs.Common.{IsSorted, sym, subst, ◌∙◌}
use Rattle.world_history.specs.Table.{row_cmp, IsTable, AreNewest}
use Rattle.world_history.proofs.Rowed.{newest_none, newest_some}
use Rattle.world_history.proofs.past.Past.newest_before.Goals as goal

pub before-high-requires : goal.before-high-requires
before-high-requires c = subst (IsSorted row_cmp) (sym c.as_slice-rows.ensures.value) c.args.self.now.table.made.sorted

-- no row before the place is of the key
pub returns-else-follows_key : goal.returns-else-follows_key
returns-else-follows_key c =
    let h = c.args.self.now.table.index.records.now in
    let rows = c.as_slice-rows.result.now in
    newest_none h rows (subst (IsTable h) (sym c.as_slice-rows.ensures.value) c.args.self.now.table.made) c.args.bucket.now c.args.key.now c.args.i c.before-high.result
    c.before-high.ensures.bound c.before-high.ensures.point (sym c.follows_key.ensures ∙ c.if-follows_key.false)

-- the last one before it has the newest version
pub returns-then-follows_key : goal.returns-then-follows_key
returns-then-follows_key c =
    let h = c.args.self.now.table.index.records.now in
    let rows = c.as_slice-rows.result.now in
    newest_some h rows (subst (IsTable h) (sym c.as_slice-rows.ensures.value) c.args.self.now.table.made) c.args.bucket.now c.args.key.now c.args.i c.before-high.result
    c.before-high.ensures.bound c.before-high.ensures.point c.as_slice-newest.result.now
    (subst (λ x. AreNewest h x c.as_slice-newest.result.now) (sym c.as_slice-rows.ensures.value) (subst (AreNewest h c.args.self.now.table.rows.items) (sym c.as_slice-newest.ensures.value) c.args.self.now.told))
    (sym c.follows_key.ensures ∙ c.if-follows_key.true) _
