-- What a link whose one connection comes in small pieces stands for.
use Rattle.std.specs.Prelude.{ℕ, List, [], ◌∷◌, Option, Some, None}
use Rattle.lab_outside.specs.declared.memory.MemSource.{MemSource}
use Rattle.lab_outside.specs.declared.piece_link.Stage.{Stage}
use Rattle.lab_outside.specs.declared.piece_link.Stage.TheVariants.{Coming, Present, Past}
use Rattle.lab_outside.specs.declared.piece_link.PieceLink.{PieceLink}
use Rattle.lab_outside.specs.Connection.{Connection}
use Rattle.lab_outside.specs.Memory.{source_left, source_faults, source_plan}

-- the bytes that its connection has still to give
abbrev pub bytes_of : PieceLink → List ℕ
bytes_of link = source_left link.bytes

-- the numbers of the reads that fail
abbrev pub plan_of : PieceLink → List ℕ
plan_of link = source_plan link.bytes

-- what was written isn't told
abbrev pub connection_at : MemSource → Connection
connection_at bytes = record { left = Some (source_left bytes); written = None; faults = source_faults bytes }

-- the connection that is present at this stage
abbrev pub present_at : Stage → Connection → Option Connection
present_at Coming c = None
present_at Present c = Some c
present_at Past c = None

-- those that are over at this stage
abbrev pub past_at : Stage → Connection → List Connection
past_at Coming c = []
past_at Present c = []
past_at Past c = c ∷ []

-- the connection that is present
abbrev pub present_of : PieceLink → Option Connection
present_of link = present_at link.stage (connection_at link.bytes)

-- those that are over
abbrev pub past_of : PieceLink → List Connection
past_of link = past_at link.stage (connection_at link.bytes)
