use Rattle.std.proofs.Common.{arith}
use Rattle.node_parts.proofs.RowSends.{next_sent}
use Rattle.node_parts.proofs.begin.Beginning.store_all.Goals as goal

pub loop-row-preserved : goal.loop-row-preserved
loop-row-preserved g c =
    next_sent g.S.Schema.words c.args.self c.args.view.now c.args.rows.now c.args.out.now.items c.loop-row.out.items c.store.new.out.items c.loop-row.slots.items c.push.new.self.items c.in_ok-store.field-0 c.loop-row.row-index _ c.row-item.result
    c.loop-row-test.true c.row-item.is c.loop-row.invariant c.in_ok-push.ensures.items c.in_ok-store.ensures.stores (omega (arith, c.loop-row.slots.ok.0))
