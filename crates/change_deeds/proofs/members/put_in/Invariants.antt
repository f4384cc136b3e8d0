use Rattle.std.proofs.Common.{◌≡◌, ◌++◌, take, drop}
use Rattle.cluster_machine.specs.Phases.{with_node}
use Rattle.change_deeds.proofs.members.put_in.Given as goal

-- the node's place isn't before this one
abbrev pub invariant-loop-place : goal.invariant-loop-place
invariant-loop-place l = record {
  same : l.nodes.items ≡ l.fn.nodes.items;
  put : with_node l.node l.nodes.items ≡ take l.place l.nodes.items ++ with_node l.node (drop l.place l.nodes.items);
}
