use Rattle.std.proofs.Common.{◌≡◌, ◌≤◌, length, drop}
use Rattle.cluster_machine.specs.Phases.{nodes_of}
use Rattle.node_parts.proofs.sets.nodes_of.Given as goal

-- the nodes of the sets behind
abbrev pub invariant-loop-left : goal.invariant-loop-left
invariant-loop-left l = record {
  within : l.left ≤ length l.sets;
  nodes_are : l.nodes.items ≡ nodes_of (drop l.left l.sets);
}

abbrev pub decreases-loop-left : goal.decreases-loop-left
decreases-loop-left l = l.left
