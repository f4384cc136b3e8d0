-- What a get has found, and which bytes of it have come.
use Rattle.std.specs.Prelude.{ℕ, Bool, true, false, nat_eq, if◌then◌else◌, Option, Some, None, List, [], ◌∷◌}
use Rattle.std.specs.Option.{option_and_then, option_or}
use Rattle.crdt_rows.specs.declared.version.Version.{Version}
use Rattle.crdt_rows.specs.declared.body.Meta.{Meta}
use Rattle.crdt_rows.specs.declared.any_row.AnyRow.{AnyRow}
use Rattle.wire_messages.specs.declared.phase.PhaseEnd.{PhaseEnd}
use Rattle.wire_messages.specs.declared.phase.PhaseEnd.TheVariants.{Row}
use Rattle.cluster_machine.specs.World.{numbered}
use Rattle.history_model.specs.declared.record.Kind.TheVariants.{Get}
use Rattle.flow_model.specs.declared.flow.Stage.{Stage}
use Rattle.flow_model.specs.declared.flow.Stage.TheVariants.{Gathering}
use Rattle.flow_model.specs.declared.flow.Flow.{Flow}
use Rattle.flow_model.specs.declared.flow.FlowEnd.{FlowEnd}
use Rattle.flow_model.specs.declared.flow.FlowEnd.TheVariants.{Found}
use Rattle.flow_model.specs.Says.{Said, none, marked, inline, in_blocks, said_of}
use Rattle.store_model.specs.Run.{Asked, Saw, State}
use Rattle.store_model.specs.Acts.{end_of}

-- the object that a row says is there
abbrev pub object_in : Said → Option (Version × Meta)
object_in none = None
object_in (marked version) = None
object_in (inline version meta body) = Some (version, meta)
object_in (in_blocks version meta first) = Some (version, meta)

-- the object that a phase gave
abbrev pub object_given : PhaseEnd AnyRow → Option (Version × Meta)
object_given (Row value) = object_in (said_of value)
object_given end = None

-- the object that the phases of request q gave first
abbrev pub object_seen : List Saw → ℕ → Option (Version × Meta)
object_seen [] q = None
object_seen (e ∷ es) q = if nat_eq e.request q then option_or (object_seen es q) (object_given e.end) else object_seen es q

-- what it waits for, while it does
abbrev pub stage_of : Option Asked → Option Stage
stage_of asked = option_and_then (λ (a : Asked). option_and_then (λ (f : Flow). Some f.stage) a.flow) asked

-- it is a get
abbrev pub is_get : Option Asked → Bool
is_get None = false
is_get (Some a) = elim a.kind as (λ k. Bool) [
  | Get ↦ true
  | _ ↦ false
]

-- it waits for something, or its end wasn't taken
abbrev pub is_there : Option Stage → Option FlowEnd → Bool
is_there (Some stage) end = true
is_there None (Some end) = true
is_there None None = false

-- the object that request q found: of a get, until its end is taken
abbrev pub found_by : State → ℕ → Option (Version × Meta)
found_by s q =
    let asked = numbered s.asked q in
    if is_get asked then (if is_there (stage_of asked) (end_of s.ends q) then object_seen s.saw q else None) else None

-- the bytes that came while it waited
abbrev pub gathered_at : Option Stage → List ℕ
gathered_at (Some (Gathering version meta aim left body)) = body
gathered_at stage = []

-- the bytes of an object with which a request ended
abbrev pub body_of : Option FlowEnd → List ℕ
body_of (Some (Found version meta body)) = body
body_of end = []

-- the bytes that came so far for request q
abbrev pub gathered : State → ℕ → List ℕ
gathered s q = elim (stage_of (numbered s.asked q)) as (λ o. List ℕ) [
  | Some stage ↦ gathered_at (Some stage)
  | None ↦ body_of (end_of s.ends q)
]
