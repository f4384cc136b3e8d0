use Rattle.std.proofs.Common.{length}
use Rattle.node_parts.proofs.KeptWalks.{Begun}
use Rattle.node_parts.proofs.walks.Walks.begin.Given as goal

abbrev pub invariant-loop-walk : goal.invariant-loop-walk
invariant-loop-walk l = Begun l.fn.self l.self l.fn.begun.items l.left.items

abbrev pub decreases-loop-walk : goal.decreases-loop-walk
decreases-loop-walk l = length l.left.items
