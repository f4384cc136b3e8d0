-- What a link over TCP stands for.
use Rattle.std.specs.Prelude.{ℕ, List, map, Option, option_map}
use Rattle.lab_outside.specs.declared.tcp_link.TcpLink.{TcpLink}
use Rattle.lab_outside.specs.Connection.{Connection}
use Rattle.lab_outside.specs.TcpConnection.{faults_of, untold}
use Rattle.lab_outside.specs.TcpQueue.{queue_port}

-- the port that it listens on, if it is open
abbrev pub port_of : {R L S : Type 0} → TcpLink R L S → Option ℕ
port_of link = queue_port link.queue

-- the connection of now, if there is one
abbrev pub present_of : {R L S : Type 0} → TcpLink R L S → Option Connection
present_of link = option_map (λ c. untold (faults_of c)) link.present

-- the connections that there were
abbrev pub past_of : {R L S : Type 0} → TcpLink R L S → List Connection
past_of link = map untold link.past.items

-- how often `open` and `next` failed
abbrev pub link_faults : {R L S : Type 0} → TcpLink R L S → ℕ
link_faults link = link.faults
