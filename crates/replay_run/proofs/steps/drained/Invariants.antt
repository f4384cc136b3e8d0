use Rattle.replay_run.proofs.Drains.{Draining}
use Rattle.replay_run.proofs.steps.drained.Given as goal

abbrev pub invariant-loop-left : goal.invariant-loop-left
invariant-loop-left l = Draining l.fn.store l.store l.lines l.left l.fn.count

abbrev pub decreases-loop-left : goal.decreases-loop-left
decreases-loop-left l = l.left
