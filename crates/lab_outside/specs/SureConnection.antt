-- What a connection that never fails stands for.
use Rattle.std.specs.Prelude.{◌≡◌, ℕ, List, [], Some, All}
use Rattle.lab_outside.specs.declared.sure_connection.SureConnection.{SureConnection}
use Rattle.lab_outside.specs.Connection.{Connection}
use Rattle.lab_outside.specs.Sure.{bytes_left, bytes_written}

-- the connection that it stands for, which never fails
abbrev pub connection_of : SureConnection → Connection
connection_of c = record { left = Some (bytes_left c.input); written = bytes_written c.output; faults = 0 }

-- the bytes that it has left to read
abbrev pub connection_left : SureConnection → List ℕ
connection_left c = bytes_left c.input

-- nothing was written to the connections
abbrev pub AreFresh : List SureConnection → Type 0
AreFresh connections = All (λ c. bytes_written c.output ≡ Some []) connections
