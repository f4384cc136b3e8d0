use Rattle.std.proofs.Common.{length}
use Rattle.serve_cluster.proofs.Going.{Going}
use Rattle.serve_cluster.proofs.Staging.{AreNodes, in_acts}
use Rattle.serve_cluster.proofs.change.stage_all.Given as goal

abbrev pub invariant-roles : goal.invariant-roles
invariant-roles l = record {
  nodes : AreNodes l.rest;
  going : Going l.initial.world l.world (in_acts l.fn.roles.list) (in_acts l.rest);
}

abbrev pub decreases-roles : goal.decreases-roles
decreases-roles l = length l.rest
