use Rattle.std.proofs.Common.{◌≡◌, ◌≤◌, length, drop}
use Rattle.change_deeds.specs.Deeds.{with_nodes}
use Rattle.change_deeds.proofs.members.put_all.Given as goal

-- the nodes behind are put in
abbrev pub invariant-loop-left : goal.invariant-loop-left
invariant-loop-left l = record {
  within : l.left ≤ length l.more;
  nodes_are : l.nodes.items ≡ with_nodes (drop l.left l.more) l.fn.nodes.items;
}

abbrev pub decreases-loop-left : goal.decreases-loop-left
decreases-loop-left l = l.left
