-- What the lines of a run say, those of its layouts too.
use Rattle.std.specs.Prelude.{ℕ, ⊤, IsTrue, Option, Some, None, List, [], ◌∷◌, ◌++◌, length, flat_map}
use Rattle.std.specs.List.{AllByRecursion, join_with_byte, range_with_len}
use Rattle.crdt_rows.specs.AnyRow.{any_join}
use Rattle.object_schema.specs.Schema.{words}
use Rattle.cluster_machine.specs.declared.applied.Applied.{Applied}
use Rattle.cluster_machine.specs.declared.line.Line.{Line}
use Rattle.cluster_machine.specs.declared.line.Line.TheVariants.{Layout, Listed}
use Rattle.cluster_machine.specs.Layouts.{layouts}
use Rattle.cluster_machine.specs.World.{NodeLine, node_line}
use Rattle.store_model.specs.declared.event.Numbered.{Numbered}
use Rattle.store_model.specs.Run.{World, State, Outcome, start}
use Rattle.store_model.specs.Events.{Turn, outcome_of, run}
use Rattle.text_model.specs.Grammar.{is_key}
use Rattle.audit_model.specs.declared.said.Said.{Said}
use Rattle.audit_model.specs.declared.said.Said.TheVariants as said
use Rattle.audit_model.specs.Lines.{words_of}
use Rattle.audit_laws.specs.Told.{saids_of, IsSpoken, event_said, node_said}
use Rattle.audit_sheets.specs.Sheets.{sheet_said, IsOrderly}

-- a line that says this, without its line feed
abbrev pub line_said : Said → List ℕ
line_said s = join_with_byte 32 (words_of s)

-- none is told with no size and no MD5
abbrev pub IsTold : Line Applied → Type 0
IsTold (Layout shown) = ⊤
IsTold l = IsSpoken l

-- each of these keys is one of the grammar
abbrev pub KeysAre : List (List ℕ × ℕ × ℕ × ℕ) → Type 0
KeysAre keys = AllByRecursion (λ k. IsTrue (is_key k.0)) keys

-- so is each key of a list's line
abbrev pub IsKeyedLine : Line Applied → Type 0
IsKeyedLine (Listed q keys) = KeysAre keys
IsKeyedLine l = ⊤

-- and each that turns tell, from a state on
abbrev pub TellKeyed : State → List Turn → Type 0
TellKeyed s [] = ⊤
TellKeyed s (t ∷ ts) = let o = outcome_of s t in AllByRecursion IsKeyedLine o.lines × TellKeyed o.state ts

-- what is printed of a layout has its numbers in their ranges and its cut in order
abbrev pub IsOrderlyLine : Line Applied → Type 0
IsOrderlyLine (Layout shown) = IsOrderly shown
IsOrderlyLine l = ⊤

-- so has all that is printed of layouts in turns, from a state on
abbrev pub TellOrderly : State → List Turn → Type 0
TellOrderly s [] = ⊤
TellOrderly s (t ∷ ts) = let o = outcome_of s t in AllByRecursion IsOrderlyLine o.lines × TellOrderly o.state ts

-- what a line says, one of a layout what its lines say
abbrev pub says_all : Line Applied → List Said
says_all (Layout shown) = sheet_said shown
says_all l = saids_of l

-- what the lines of an event say
abbrev pub event_says_all : Numbered → Outcome → List Said
event_says_all e o = event_said e o ∷ flat_map says_all o.lines

-- what the lines of turns say
abbrev pub turns_say_all : State → List Turn → List Said
turns_say_all s [] = []
turns_say_all s (t ∷ ts) = let o = outcome_of s t in event_says_all t.numbered o ++ turns_say_all o.state ts

-- what the line of a node says, if it has one
abbrev pub shown_said : Option NodeLine → List Said
shown_said None = []
shown_said (Some n) = node_said n ∷ []

-- what the lines of nodes 1 to 16 say
abbrev pub nodes_said : World → List Said
nodes_said w = flat_map (λ n. shown_said (node_line any_join words layouts w n)) (range_with_len 1 16)

-- what a transcript ends with
abbrev pub tail_said : ℕ → State → List Said
tail_said events s = nodes_said s.world ++ said.End events (length s.world.requests) (length s.world.messages) ∷ []

-- what a whole transcript says
abbrev pub transcript_says : List Turn → List Said
transcript_says ts = turns_say_all start ts ++ tail_said (length ts) (run start ts)
