-- What is told of a request that ended by itself: its record in the history, and its line.
use Rattle.std.specs.Prelude.{ℕ, Some, None, List, [], ◌∷◌, length}
use Rattle.md5.specs.Md5.{md5}
use Rattle.crdt_rows.specs.declared.version.Version.{Version}
use Rattle.crdt_rows.specs.declared.body.Meta.{Meta}
use Rattle.crdt_rows.specs.declared.object_row.ObjectRow.{ObjectRow}
use Rattle.cluster_machine.specs.declared.applied.Applied.{Applied}
use Rattle.cluster_machine.specs.declared.line.Line.{Line}
use Rattle.cluster_machine.specs.declared.line.Line.TheVariants.{Done, Listed as Shown, Ended as HasEnded}
use Rattle.cluster_machine.specs.declared.line.DoneWord.{DoneWord}
use Rattle.cluster_machine.specs.declared.line.DoneWord.TheVariants as word
use Rattle.cluster_machine.specs.declared.line.EndWord.TheVariants.{Superseded as WasSuperseded}
use Rattle.history_model.specs.declared.record.Kind.{Kind}
use Rattle.history_model.specs.declared.record.Kind.TheVariants as kind
use Rattle.history_model.specs.declared.record.Answer.TheVariants as answer
use Rattle.history_model.specs.declared.record.Cause.TheVariants as cause
use Rattle.history_model.specs.declared.record.Record.{Record}
use Rattle.history_model.specs.declared.record.Record.TheVariants.{Finished, Ended}
use Rattle.flow_model.specs.declared.flow.FlowEnd.{FlowEnd}
use Rattle.flow_model.specs.declared.flow.FlowEnd.TheVariants.{Stored, Found, Nothing, Listed, Superseded, Aborted}
use Rattle.flow_model.specs.Says.{Said, none, marked, inline, in_blocks, said_by}

-- a key that a list shows, with what is said of its object
pub record Entry : Type 0 where
  pub key : List ℕ
  pub version : Version
  pub meta : Meta

-- the entry of a key of whose object this is said, where there is an object, before others
abbrev pub with_entry : List ℕ → Said → List Entry → List Entry
with_entry key none es = es
with_entry key (marked version) es = es
with_entry key (inline version meta body) es = record { key = key; version = version; meta = meta } ∷ es
with_entry key (in_blocks version meta first) es = record { key = key; version = version; meta = meta } ∷ es

-- what a list shows of rows
abbrev pub entries : List ObjectRow → List Entry
entries [] = []
entries (r ∷ rs) = with_entry r.key (said_by r) (entries rs)

-- keys with their versions
abbrev pub versions_of : List Entry → List (List ℕ × Version)
versions_of [] = []
versions_of (e ∷ es) = (e.key, e.version) ∷ versions_of es

-- keys with timestamps, identifiers and sizes
abbrev pub lines_of : List Entry → List (List ℕ × ℕ × ℕ × ℕ)
lines_of [] = []
lines_of (e ∷ es) = (e.key, e.version.ts, e.version.id, e.meta.size) ∷ lines_of es

-- what the history has of a request that ended so
abbrev pub record_of : ℕ → FlowEnd → Record
record_of q (Stored version meta) = Finished q (answer.Version version)
record_of q (Found version meta body) = Finished q (answer.Version version)
record_of q Nothing = Finished q answer.None
record_of q (Listed rows) = Finished q (answer.Listed (versions_of (entries rows)))
record_of q (Superseded id) = Ended q (cause.Superseded id)
record_of q Aborted = Ended q cause.Aborted

-- a version as two numbers
abbrev pub pair : Version → ℕ × ℕ
pair v = (v.ts, v.id)

-- the line of a request that finished with this version; of a get also size and MD5 of the bytes, of a head the size
abbrev pub found_line : ℕ → Kind → Version → Meta → List ℕ → Line Applied
found_line q kind.Head version meta body = Done q word.Head (Some (pair version)) (Some meta.size) None
found_line q kind version meta body = Done q word.Get (Some (pair version)) (Some (length body)) (Some (md5 body))

-- the word of a request's line; a list has a line of its own
abbrev pub word_of : Kind → DoneWord
word_of kind.Put = word.Put
word_of kind.Get = word.Get
word_of kind.Head = word.Head
word_of kind.Delete = word.Delete
word_of kind.Copy = word.Copy
word_of kind.List = word.Get

-- the line of a request of this kind that ended so; no schedule gives an upload up, so of that end there is none
abbrev pub lines_of_end : ℕ → Kind → FlowEnd → List (Line Applied)
lines_of_end q kind (Stored version meta) = Done q (word_of kind) (Some (pair version)) None None ∷ []
lines_of_end q kind (Found version meta body) = found_line q kind version meta body ∷ []
lines_of_end q kind Nothing = Done q (word_of kind) None None None ∷ []
lines_of_end q kind (Listed rows) = Shown q (lines_of (entries rows)) ∷ []
lines_of_end q kind (Superseded id) = HasEnded q WasSuperseded ∷ []
lines_of_end q kind Aborted = []
