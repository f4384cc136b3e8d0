use Rattle.world_history.proofs.Order.{Told}
use Rattle.world_history.proofs.index.order.Given as goal

abbrev pub invariant-loop-i : goal.invariant-loop-i
invariant-loop-i l = Told l.records l.i l.order.items
