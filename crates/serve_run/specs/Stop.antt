-- Why nothing was served to the end: the status and the text that go with it.
use Rattle.std.specs.Prelude.{◌≡◌, ⊤, ℕ, ◌<◌, List, [], ◌∷◌, ◌++◌, map, codes, length, Option, Some, IfSome}
use Rattle.crdt_core.specs.declared.memory.Memory.{Memory as Why}
use Rattle.crdt_core.specs.declared.memory.Memory.TheVariants.{Want, Full}
use Rattle.lab_outside.specs.declared.exit.Status.{Status}
use Rattle.lab_outside.specs.declared.exit.Status.TheVariants as status
use Rattle.lab_outside.specs.declared.whole.ReadStop.{ReadStop}
use Rattle.lab_outside.specs.declared.whole.ReadStop.TheVariants as read
use Rattle.serve_model.specs.declared.served.ServeFault.TheVariants as fault
use Rattle.serve_loop.specs.declared.service.ServeStop.{ServeStop}
use Rattle.serve_loop.specs.declared.service.ServeStop.TheVariants as ended
use Rattle.layout_roles.specs.declared.redundancy.Redundancy.{Redundancy}
use Rattle.layout_roles.specs.declared.role.Role.{Role}
use Rattle.layout_text.specs.Changes.{Coming}
use Rattle.layout_command.specs.Answer.{IsLaidOut}
use Rattle.lab_main.specs.Limits.{input_limit, input_line, number_line}
use Rattle.serve_run.specs.Plan.{settings_with, settings_in, IsFirstRefused, IsRefused, OfInput}
use Rattle.serve_run.specs.declared.stop.Stop.{Stop}
use Rattle.serve_run.specs.declared.stop.Stop.TheVariants.{Read, Link, Memory, LongInput, Refused, Kept, Number}

-- why a read of the input stopped
abbrev pub stop_of_read : ReadStop → Stop
stop_of_read read.Failed = Read
stop_of_read read.Memory = Memory

-- why a call of the world gave up
abbrev pub stop_of_memory : Why → Stop
stop_of_memory Want = Memory
stop_of_memory Full = Number

-- why serving ended early
abbrev pub stop_of_serving : ServeStop → Stop
stop_of_serving ended.Link = Link
stop_of_serving (ended.Fault fault.Kept) = Kept
stop_of_serving (ended.Fault fault.Number) = Number
stop_of_serving (ended.Fault fault.Memory) = Memory

-- the status of each
abbrev pub status_of : Stop → Status
status_of Read = status.ReadFault
status_of Link = status.LinkFault
status_of Memory = status.Memory
status_of LongInput = status.Limit
status_of (Refused line) = status.Refused
status_of Kept = status.Limit
status_of Number = status.Limit

-- more bytes were put or copied than may be
abbrev pub kept_line : List ℕ
kept_line = codes "limit kept 536870912" ++ 10 ∷ []

-- the line that is written of each
abbrev pub said_of : Stop → List ℕ
said_of Read = []
said_of Link = []
said_of Memory = []
said_of LongInput = input_line
said_of (Refused line) = line
said_of Kept = kept_line
said_of Number = number_line

-- a text may be the cause: what it says has this line
abbrev pub IsOfText : List ℕ → Stop → Type 0
IsOfText text Memory = ⊤
IsOfText text (Refused line) = IsRefused text line
IsOfText text stop = ⊥

-- roles may be the cause: they have no layout for this redundancy, as this line says
abbrev pub IsOfRoles : List Role → Redundancy → Stop → Type 0
IsOfRoles roles wanted Memory = ⊤
IsOfRoles roles wanted (Refused line) = IsLaidOut (settings_with roles wanted) status.Refused line
IsOfRoles roles wanted stop = ⊥

-- changes may be the cause: the first of them without a layout has none, as this line says
abbrev pub IsOfComings : List Coming → Stop → Type 0
IsOfComings comings Memory = ⊤
IsOfComings comings (Refused line) = IsFirstRefused (map settings_in comings) line
IsOfComings comings stop = ⊥

-- reading the input may be the cause, or what it says: that it is too long, or this line
abbrev pub IsOfInput : Option (List ℕ) → Stop → Type 0
IsOfInput input Read = ⊤
IsOfInput input Memory = ⊤
IsOfInput input LongInput = IfSome input (λ bytes. input_limit < length bytes)
IsOfInput input (Refused line) = OfInput (λ bytes. IsRefused bytes line) input
IsOfInput input stop = ⊥

-- serving may be the cause
abbrev pub IsOfServing : Stop → Type 0
IsOfServing Link = ⊤
IsOfServing Memory = ⊤
IsOfServing Kept = ⊤
IsOfServing Number = ⊤
IsOfServing stop = ⊥

-- the input is the cause: it can't be read, is too long, or is refused
abbrev pub IsOfReading : Stop → Type 0
IsOfReading Read = ⊤
IsOfReading LongInput = ⊤
IsOfReading (Refused line) = ⊤
IsOfReading stop = ⊥

-- the input, where it is told, is longer than it may be
abbrev pub IsTooLong : Option (List ℕ) → Type 0
IsTooLong input = (bytes : List ℕ) × (input ≡ Some bytes) × (input_limit < length bytes)

-- the status goes with a text, and isn't one of reading or of memory
abbrev pub IsTold : Stop → Type 0
IsTold Read = ⊥
IsTold Memory = ⊥
IsTold stop = ⊤
