use Rattle.std.proofs.Common.{length, map}
use Rattle.change_deeds.specs.Deeds.{act_of}
use Rattle.serve_cluster.proofs.Going.{Going}
use Rattle.serve_cluster.proofs.change.play_all.Given as goal

abbrev pub invariant-deeds : goal.invariant-deeds
invariant-deeds l = Going l.initial.world l.world (map act_of l.fn.deeds) (map act_of l.rest)

abbrev pub decreases-deeds : goal.decreases-deeds
decreases-deeds l = length l.rest
