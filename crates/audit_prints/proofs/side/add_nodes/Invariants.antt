use Rattle.std.proofs.Common.{◌≡◌, ◌++◌, take, map}
use Rattle.layout_roles.specs.declared.vertex.Vertex.TheVariants.{Node}
use Rattle.audit_model.specs.Printed.{nodes_among}
use Rattle.audit_prints.proofs.side.add_nodes.Given as goal

abbrev pub invariant-loop-node : goal.invariant-loop-node
invariant-loop-node l = l.side ≡ l.fn.side ++ map Node (nodes_among (take l.node-index l.nodes))
