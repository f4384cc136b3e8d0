use Rattle.std.proofs.Common.{◌≡◌, ◌++◌, take}
use Rattle.layout_flow.specs.Closed.{held_nodes}
use Rattle.layout_flow.proofs.side.add_nodes.Given as goal

abbrev pub invariant-loop-role : goal.invariant-loop-role
invariant-loop-role l = l.side ≡ l.initial.side ++ held_nodes 256 l.size l.each l.zones (take l.role-index l.roles)
