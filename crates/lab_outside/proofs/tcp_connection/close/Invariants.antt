use Rattle.std.proofs.Common.{◌≡◌}
use Rattle.lab_outside.specs.TcpQueue.{queue_port}
use Rattle.lab_outside.proofs.tcp_connection.close.Given as goal

abbrev pub invariant-pieces : goal.invariant-pieces
invariant-pieces g l = queue_port l.queue ≡ queue_port l.fn.queue
