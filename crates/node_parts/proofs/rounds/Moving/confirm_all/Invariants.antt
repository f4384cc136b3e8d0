use Rattle.std.proofs.Common.{take}
use Rattle.node_parts.proofs.Emptying.{ConfirmedSome}
use Rattle.node_parts.proofs.rounds.Moving.confirm_all.Given as goal

abbrev pub invariant-loop-node : goal.invariant-loop-node
invariant-loop-node l = ConfirmedSome l.fn.self l.self l.p (take l.node-index l.nodes)
