use Rattle.std.proofs.Common.{◌≡◌, ◌++◌, take, flat_map}
use Rattle.layout_roles.specs.Text.{number}
use Rattle.layout_text.proofs.sets.append_nodes.Given as goal

abbrev pub invariant-loop-node : goal.invariant-loop-node
invariant-loop-node l = l.out ≡ l.fn.out ++ flat_map number (take l.node-index l.set)
