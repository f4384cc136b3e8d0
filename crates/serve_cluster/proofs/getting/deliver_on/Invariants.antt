use Rattle.serve_cluster.proofs.Nexts.{Delivering}
use Rattle.serve_cluster.proofs.getting.deliver_on.Given as goal

abbrev pub invariant-messages : goal.invariant-messages
invariant-messages l = Delivering l.initial.world l.world l.initial.getting l.getting

abbrev pub decreases-messages : goal.decreases-messages
decreases-messages l = l.getting.left
