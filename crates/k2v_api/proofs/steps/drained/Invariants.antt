use Rattle.k2v_api.proofs.Drains.{Draining}
use Rattle.k2v_api.proofs.steps.drained.Given as goal

abbrev pub invariant-loop-left : goal.invariant-loop-left
invariant-loop-left l = Draining l.fn.items l.items l.lines l.left l.fn.count

abbrev pub decreases-loop-left : goal.decreases-loop-left
decreases-loop-left l = l.left
