-- What a connection over TCP stands for.
use Rattle.std.specs.Prelude.{ℕ, None}
use Rattle.lab_outside.specs.declared.tcp_connection.TcpConnection.{TcpConnection}
use Rattle.lab_outside.specs.Connection.{Connection}

-- a link takes so many connections
abbrev pub connection_limit : ℕ
connection_limit = 1000

-- how often its calls failed
abbrev pub faults_of : {S : Type 0} → TcpConnection S → ℕ
faults_of c = c.faults

-- a connection of which no bytes are told, that failed so often
abbrev pub untold : ℕ → Connection
untold faults = record { left = None; written = None; faults = faults }
