-- The records that the lines of a run give, before they are text.
use Rattle.std.specs.Prelude.{◌≡◌, ℕ, Some, None, List, [], ◌∷◌, ◌++◌, map, ⊤}
use Rattle.cluster_machine.specs.declared.applied.Applied.{Applied}
use Rattle.cluster_machine.specs.declared.line.Line.{Line}
use Rattle.cluster_machine.specs.declared.line.Line.TheVariants.{Done, Listed, Ended}
use Rattle.crdt_rows.specs.declared.version.Version.{Version}
use Rattle.history_model.specs.declared.record.Answer.TheVariants as answer
use Rattle.history_model.specs.declared.record.Cause.{Cause}
use Rattle.history_model.specs.declared.record.Cause.TheVariants as cause
use Rattle.history_model.specs.declared.record.Record.{Record}
use Rattle.history_model.specs.declared.record.Record.TheVariants.{Began, Finished, Ended as HasEnded}
use Rattle.store_model.specs.Run.{Asked, Outcome}
use Rattle.store_model.specs.Orders.{kind_of, name_of}
use Rattle.store_model.specs.Acts.{Act, asks, moves, IsOuter}
use Rattle.flow_model.specs.declared.order.Order.{Order}
use Rattle.flow_model.specs.declared.flow.Stage.{Stage}
use Rattle.flow_model.specs.declared.flow.Stage.TheVariants.{Aborting}
use Rattle.flow_model.specs.declared.flow.Flow.{Flow}
use Rattle.cluster_machine.specs.declared.step.Words.{Words}
use Rattle.cluster_machine.specs.declared.step.Words.TheVariants.{One}
use Rattle.cluster_machine.specs.World.{numbered}
use Rattle.audit_model.specs.Heard.{version_of, cause_of}

-- a key of a list with its version
abbrev pub key_version : List ℕ × ℕ × ℕ × ℕ → List ℕ × Version
key_version k = (k.0, version_of (k.1, k.2))

-- the record that a line gives, if it gives one
abbrev pub record_told : Line Applied → List Record
record_told (Done q w None size md5) = Finished q answer.None ∷ []
record_told (Done q w (Some v) size md5) = Finished q (answer.Version (version_of v)) ∷ []
record_told (Listed q keys) = Finished q (answer.Listed (map key_version keys)) ∷ []
record_told (Ended q w) = HasEnded q (cause_of w) ∷ []
record_told other = []

-- the records that lines give
abbrev pub records_told : List (Line Applied) → List Record
records_told [] = []
records_told (l ∷ ls) = record_told l ++ records_told ls

-- a cause without the identifier that no line tells
abbrev pub blunt_cause : Cause → Cause
blunt_cause (cause.Superseded id) = cause.Superseded 0
blunt_cause c = c

-- a record without that identifier
abbrev pub blunt : Record → Record
blunt (HasEnded q c) = HasEnded q (blunt_cause c)
blunt r = r

-- the record of a request that an accepted event began, which its own line names
abbrev pub began_record : ℕ → Order → Words → List Record
began_record n order (One q) = let name = name_of order in Began q n (kind_of order) name.bucket name.key ∷ []
began_record n order words = []

-- the same, of an act that begins one
abbrev pub began_of : Act → Outcome → List Record
began_of (asks n order) o = began_record n order o.words
began_of act o = []

-- the act isn't a step of a request
abbrev pub IsOuterAct : Act → Type 0
IsOuterAct (moves m) = IsOuter m.step
IsOuterAct act = ⊤

-- a request that waits so wasn't given up
abbrev pub IsNotGivenUp : Stage → Type 0
IsNotGivenUp (Aborting version) = ⊥
IsNotGivenUp stage = ⊤

-- none of these requests is an upload that was given up, of whose end no line tells
abbrev pub NoneGivenUp : List Asked → Type 0
NoneGivenUp asked = (q : ℕ) (a : Asked) (flow : Flow) → numbered asked q ≡ Some a → a.flow ≡ Some flow → IsNotGivenUp flow.stage
