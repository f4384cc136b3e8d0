use Rattle.std.proofs.Common.{◌≡◌}
use Rattle.lab_outside.specs.TcpQueue.{queue_port}
use Rattle.lab_outside.proofs.tcp_connection.TcpConnection.write.Given as goal

abbrev pub invariant-tries : goal.invariant-tries
invariant-tries g l =
    record {
      faults : l.self.faults ≡ l.fn.self.faults;
      port : queue_port l.queue ≡ queue_port l.fn.queue;
    }
