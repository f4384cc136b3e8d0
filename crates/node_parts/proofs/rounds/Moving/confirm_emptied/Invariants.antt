use Rattle.std.proofs.Common.{map, take}
use Rattle.node_parts.proofs.Emptying.{EmptiedSome}
use Rattle.node_parts.proofs.rounds.Moving.confirm_emptied.Given as goal

abbrev pub invariant-loop-p : goal.invariant-loop-p
invariant-loop-p g l = EmptiedSome g.S.Row.Crdt.join g.S.Schema.words l.contents l.fn.self l.self (map (λ part. (part.0, part.1.items)) (take l.p-index l.p-items))
