use Rattle.s3_world.proofs.Drains.{Draining}
use Rattle.s3_world.proofs.driver.Driver.drains.Given as goal

abbrev pub invariant-loop-left : goal.invariant-loop-left
invariant-loop-left g l = Draining l.fn.heard l.fn.self l.self l.lines l.left l.fn.count

abbrev pub decreases-loop-left : goal.decreases-loop-left
decreases-loop-left g l = l.left
