use Rattle.std.proofs.Common.{◌≡◌}
use Rattle.lab_outside.proofs.tcp_queue.Listening.next.Given as goal

abbrev pub invariant-tries : goal.invariant-tries
invariant-tries g l = l.self.port ≡ l.fn.self.port
