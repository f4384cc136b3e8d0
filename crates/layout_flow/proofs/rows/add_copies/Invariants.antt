use Rattle.std.proofs.Common.{◌≡◌, ◌++◌, replicate}
use Rattle.layout_flow.proofs.rows.add_copies.Given as goal

abbrev pub invariant-loop : goal.invariant-loop
invariant-loop l = l.copies ≡ l.initial.copies ++ replicate l.counter l.role.node
