use Rattle.std.proofs.Common.{◌≤◌, ◌-◌}
use Rattle.serve_cluster.proofs.Going.{Going}
use Rattle.serve_cluster.proofs.Staging.{out_acts, out_from}
use Rattle.serve_cluster.proofs.change.unstage_all.Given as goal

abbrev pub invariant-nodes : goal.invariant-nodes
invariant-nodes l = record {
  within : l.node ≤ 16;
  going : Going l.initial.world l.world out_acts (out_from l.node);
}

abbrev pub decreases-nodes : goal.decreases-nodes
decreases-nodes l = 16 - l.node
