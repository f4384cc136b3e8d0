use Rattle.std.proofs.Common.{◌≡◌, take}
use Rattle.crdt_core.specs.Order.{join_of}
use Rattle.crdt_core.proofs.joins.join.Given as goal

-- the rows so far are joined
abbrev pub invariant-loop-row : goal.invariant-loop-row
invariant-loop-row g l = l.all ≡ join_of g.R.Crdt.join (take l.row-index l.rows)
