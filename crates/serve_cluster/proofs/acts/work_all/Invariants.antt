use Rattle.std.proofs.Common.{length}
use Rattle.serve_cluster.proofs.Acting.{Working}
use Rattle.serve_cluster.proofs.acts.work_all.Given as goal

abbrev pub invariant-members : goal.invariant-members
invariant-members l = Working l.initial.world l.world l.fn.members l.rest

abbrev pub decreases-members : goal.decreases-members
decreases-members l = length l.rest
