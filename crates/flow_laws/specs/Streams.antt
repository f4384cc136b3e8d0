-- A streamed put in the middle of its bytes.
use Rattle.std.specs.Prelude.{ℕ, length}
use Rattle.crdt_rows.specs.declared.version.Version.{Version}
use Rattle.flow_model.specs.declared.flow.Name.{Name}
use Rattle.flow_model.specs.declared.flow.Coming.{Coming}
use Rattle.flow_model.specs.declared.flow.Content.{Content}
use Rattle.flow_model.specs.declared.flow.Stage.TheVariants.{Receiving, Needing}
use Rattle.flow_model.specs.declared.flow.Flow.{Flow}
use Rattle.flow_laws.specs.Pieces.{pieces}

-- what a client announces that has these bytes
abbrev pub coming_of : Content → Coming
coming_of c = record { length = length c.body; headers = c.headers }

-- so many blocks of the bytes have come, and the last of them is being stored
abbrev pub receiving : ℕ → ℕ → Name → Version → Content → ℕ → Flow
receiving id block name version c i = record { id = id; block = block; stage = Receiving name version (coming_of c) (pieces block c.body 0 i) }

-- so many blocks of the bytes have come, and are stored
abbrev pub needing : ℕ → ℕ → Name → Version → Content → ℕ → Flow
needing id block name version c i = record { id = id; block = block; stage = Needing name version (coming_of c) (pieces block c.body 0 i) }
