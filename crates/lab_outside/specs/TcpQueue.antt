-- The port to which a queue's connections come.
use Rattle.std.specs.Prelude.{ℕ, Option, option_map}
use Rattle.lab_outside.specs.declared.tcp_queue.TcpQueue.{TcpQueue}

-- the port that is listened on, if one is open
abbrev pub queue_port : {L S : Type 0} → TcpQueue L S → Option ℕ
queue_port queue = option_map (λ l. l.port) queue.listening
