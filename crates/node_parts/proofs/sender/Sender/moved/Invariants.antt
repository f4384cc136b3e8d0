use Rattle.node_parts.proofs.MovedParts.{MovedSoFar}
use Rattle.node_parts.proofs.sender.Sender.moved.Given as goal

abbrev pub invariant-loop-partition : goal.invariant-loop-partition
invariant-loop-partition g l = MovedSoFar g.S.Row.Crdt.join g.S.Schema.words l.self l.contents l.here l.there l.parts.items l.partition
