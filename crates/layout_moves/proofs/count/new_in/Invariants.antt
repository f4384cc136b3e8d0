use Rattle.std.proofs.Common.{◌≡◌, ◌≤◌, take}
use Rattle.layout_moves.specs.Moves.{new_nodes}
use Rattle.layout_moves.proofs.count.new_in.Given as goal

abbrev pub invariant-loop-node : goal.invariant-loop-node
invariant-loop-node l = record { within : l.count ≤ l.node-index; count : l.count ≡ new_nodes l.old (take l.node-index l.set) }
