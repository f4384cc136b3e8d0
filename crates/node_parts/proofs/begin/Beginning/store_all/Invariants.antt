use Rattle.node_parts.proofs.RowSends.{Sent}
use Rattle.node_parts.proofs.begin.Beginning.store_all.Given as goal

-- the rows so far are sent
abbrev pub invariant-loop-row : goal.invariant-loop-row
invariant-loop-row g l = Sent g.S.Schema.words l.self l.view l.rows l.fn.out.items l.out.items l.slots.items l.row-index
