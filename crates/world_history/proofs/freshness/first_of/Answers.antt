use Rattle.std.proofs.Common.{◌≡◌, ◌+◌, sym, ap, subst, ◌∙◌}
use Rattle.world_history.specs.Checks.{stale_at, earlier_of, IsFirstBelow}
use Rattle.world_history.proofs.First.{first_none, first_more}
use Rattle.world_history.proofs.freshness.first_of.Goals as goal

pub loop-i-init : goal.loop-i-init
loop-i-init c = first_none (stale_at c.args.past.now.table.index.records.now)

-- one place more
pub loop-i-preserved : goal.loop-i-preserved
loop-i-preserved c =
    let h = c.args.past.now.table.index.records.now in
    let next : c.earlier-first.result ≡ earlier_of c.loop-i.first (stale_at h c.loop-i.i) = c.earlier-first.ensures ∙ ap (earlier_of c.loop-i.first) c.stale_at.ensures in
    subst (IsFirstBelow (stale_at h) (c.loop-i.i + 1)) (sym next) (first_more (stale_at h) c.loop-i.i c.loop-i.first c.loop-i.invariant)
