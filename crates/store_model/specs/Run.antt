-- The state of a run, and what requests do in it.
use Rattle.std.specs.Prelude.{ℕ, zero, suc, ◌-◌, Bool, true, false, ◌&&◌, ◌||◌, nat_eq, if◌then◌else◌, Option, Some, None, List, [], ◌∷◌, ◌++◌, length, slice_set}
use Rattle.std.specs.Option.{option_and_then, option_map_or}
use Rattle.std.specs.Cmp.Lexicographic.{pointwise}
use Rattle.layout_roles.specs.declared.cut.Cut.{Cut}
use Rattle.crdt_rows.specs.declared.version.Version.{Version}
use Rattle.crdt_rows.specs.declared.any_row.AnyRow.{AnyRow}
use Rattle.crdt_rows.specs.AnyRow.{any_join}
use Rattle.object_schema.specs.Schema.{words}
use Rattle.wire_messages.specs.declared.phase.Phase.{Phase}
use Rattle.wire_messages.specs.declared.phase.PhaseEnd.{PhaseEnd}
use Rattle.wire_messages.specs.declared.phase.PhaseEnd.TheVariants.{Row}
use Rattle.cluster_machine.specs.declared.step.Step.{Step}
use Rattle.cluster_machine.specs.declared.step.Step.TheVariants as step
use Rattle.cluster_machine.specs.declared.step.Refusal.{Refusal}
use Rattle.cluster_machine.specs.declared.step.Refusal.TheVariants.{VersionLimit, NotMember, NoSuchBucket}
use Rattle.cluster_machine.specs.declared.step.Words.{Words}
use Rattle.cluster_machine.specs.declared.step.Words.TheVariants.{Empty, One}
use Rattle.cluster_machine.specs.declared.line.Line.{Line}
use Rattle.cluster_machine.specs.Node.{Ended}
use Rattle.cluster_machine.specs.World.{empty, clock, is_member_at, numbered, undelivered}
use Rattle.cluster_machine.specs.Step.{none_given}
use Rattle.cluster_machine.specs.Layouts.{layouts}
use Rattle.cluster_machine.specs.declared.applied.Applied.{Applied}
use Rattle.cluster_machine.specs.Worlds.{Model, Doing, Done as Effect, does, next as world_after}
use Rattle.history_model.specs.declared.record.Kind.{Kind}
use Rattle.history_model.specs.declared.record.Record.{Record}
use Rattle.history_model.specs.declared.record.Record.TheVariants.{Began}
use Rattle.flow_model.specs.declared.order.Order.{Order}
use Rattle.flow_model.specs.declared.flow.Name.{Name}
use Rattle.flow_model.specs.declared.flow.Wish.{Wish}
use Rattle.flow_model.specs.declared.flow.Wish.TheVariants as wish
use Rattle.flow_model.specs.declared.flow.Stage.{Stage}
use Rattle.flow_model.specs.declared.flow.Stage.TheVariants.{Drawing, Needing}
use Rattle.flow_model.specs.declared.flow.Flow.{Flow}
use Rattle.flow_model.specs.declared.flow.FlowStep.{FlowStep}
use Rattle.flow_model.specs.declared.flow.FlowStep.TheVariants.{More, Need, Wait, End}
use Rattle.flow_model.specs.declared.flow.FlowEnd.{FlowEnd}
use Rattle.flow_model.specs.Rows.{content_of}
use Rattle.flow_model.specs.Flow.{started}
use Rattle.flow_model.specs.Next.{drawn, next}
use Rattle.flow_model.specs.Streams as stream
use Rattle.store_model.specs.Orders.{kind_of, name_of, buckets_of}
use Rattle.store_model.specs.Answers.{record_of, lines_of_end}

-- worlds of the machine over the rows of the object store
abbrev pub World : Type 0
World = Model AnyRow

-- steps of those worlds
abbrev pub Moving : Type 0
Moving = Doing AnyRow

-- what a request does, for which object, at which node, and what it waits for; nothing once it has ended by itself
pub record Asked : Type 0 where
  pub node : ℕ
  pub kind : Kind
  pub name : Name
  pub flow : Option Flow

-- a write drew its version, to make this of its object, in blocks of this size where it is long, when the history had so many records; a streamed put did for the stream, and once all its bytes had come and were to be kept, for these
pub record Draw : Type 0 where
  pub request : ℕ
  pub name : Name
  pub version : Version
  pub wish : Wish
  pub block : ℕ
  pub moment : ℕ

-- a phase of a request ended, and what it gave
pub record Saw : Type 0 where
  pub request : ℕ
  pub end : PhaseEnd AnyRow

-- the world, the buckets and the size of blocks, the requests, how they ended, and the history: what was begun and how it ended, which versions were drawn, and what phases gave
pub record State : Type 0 where
  pub world : World
  pub buckets : List (List ℕ)
  pub block : ℕ
  pub asked : List Asked  -- request q at place q - 1
  pub ends : List (ℕ × FlowEnd)  -- how requests ended by themselves, until that is taken; the oldest first
  pub history : List Record  -- the oldest first
  pub draws : List Draw  -- the newest first
  pub saw : List Saw  -- the newest first

-- nothing has happened; blocks have a mebibyte
abbrev pub start : State
start = record { world = empty; buckets = []; block = 1048576; asked = []; ends = []; history = []; draws = []; saw = [] }

-- the state after something happened, the steps of the world that it was, and what it told
pub record Outcome : Type 0 where
  pub state : State
  pub moves : List Moving
  pub new_versions : List Version  -- that writes drew
  pub refused : Option (Refusal Cut)
  pub words : Words
  pub lines : List (Line Applied)

-- nothing happened and nothing is told
abbrev pub silent : State → Outcome
silent s = record { state = s; moves = []; new_versions = []; refused = None; words = Empty; lines = [] }

-- nothing happened, and why
abbrev pub refusal : State → Refusal Cut → Outcome
refusal s r = record (silent s) { refused = Some r }

-- a step that is given no layout
abbrev pub plainly : Step AnyRow → Moving
plainly st = record { step = st; choice = none_given VersionLimit }

-- what a step does to the world
abbrev pub effect : State → Moving → Effect AnyRow
effect s m = does any_join words s.world m

-- the state after a step of the world
abbrev pub doing : State → Moving → State
doing s m = record s { world = world_after any_join words s.world m }

-- the bucket was made
abbrev pub is_bucket : List (List ℕ) → List ℕ → Bool
is_bucket [] name = false
is_bucket (b ∷ bs) name = pointwise nat_eq b name || is_bucket bs name

-- each of these buckets was made
abbrev pub are_buckets : List (List ℕ) → List (List ℕ) → Bool
are_buckets buckets [] = true
are_buckets buckets (name ∷ names) = is_bucket buckets name && are_buckets buckets names

-- the step by which a phase of request q begins
abbrev pub phases : ℕ → Phase AnyRow → Moving
phases q phase = plainly (step.Phase q phase)

-- what a request is at first
abbrev pub new_request : ℕ → Order → Flow → Asked
new_request n order flow = record { node = n; kind = kind_of order; name = name_of order; flow = Some flow }

-- the history says that it began
abbrev pub began_with : ℕ → ℕ → Order → Record
began_with q n order = let name = name_of order in Began q n (kind_of order) name.bucket name.key

-- a request begins with its first phase
abbrev pub opened : State → ℕ → Order → Outcome
opened s n order =
    let q = suc (length s.world.requests) in
    let first = started order q s.block in
    let opens = plainly (step.Open n) in
    let here = doing s opens in
    let e = effect here (phases q first.1) in
    record {
      state = record (doing here (phases q first.1)) {
        asked = s.asked ++ new_request n order first.0 ∷ [];
        history = s.history ++ began_with q n order ∷ [];
      };
      moves = opens ∷ phases q first.1 ∷ [];
      new_versions = [];
      refused = None;
      words = One q;
      lines = e.tells;
    }

-- a request begins at node n, if it is a member and the buckets that are named were made
abbrev pub begins : State → ℕ → Order → Outcome
begins s n order =
    if is_member_at layouts s.world n then (if are_buckets s.buckets (buckets_of order) then opened s n order else refusal s NoSuchBucket) else refusal s NotMember

-- the request waits for this now
abbrev pub set_flow : State → ℕ → Asked → Option Flow → List Asked
set_flow s q asked flow = slice_set s.asked (q - 1) (record asked { flow = flow })

-- the draws of a request that waits so when its phase ends at this time of its coordinator's clock: a write that has read its object's row draws its version
abbrev pub draws_of : State → ℕ → ℕ → Stage → PhaseEnd AnyRow → ℕ → List Draw
draws_of s q block (Drawing name wish) (Row value) now = record { request = q; name = name; version = drawn q value now; wish = wish; block = block; moment = length s.history } ∷ []
draws_of s q block stage end now = []

-- the versions of draws
abbrev pub versions_drawn : List Draw → List Version
versions_drawn [] = []
versions_drawn (d ∷ ds) = d.version ∷ versions_drawn ds

-- a request goes on with its next phase
abbrev pub goes : State → ℕ → Asked → List Draw → Flow → Phase AnyRow → Outcome
goes s q asked draws flow phase =
    let e = effect s (phases q phase) in
    record {
      state = record (doing s (phases q phase)) { asked = set_flow s q asked (Some flow); draws = draws ++ s.draws };
      moves = phases q phase ∷ [];
      new_versions = versions_drawn draws;
      refused = None;
      words = Empty;
      lines = e.tells;
    }

-- a request is done
abbrev pub finishes : State → ℕ → Asked → FlowEnd → Outcome
finishes s q asked end = record {
  state = record (doing s (plainly (step.Close q))) { asked = set_flow s q asked None; ends = s.ends ++ (q, end) ∷ []; history = s.history ++ record_of q end ∷ [] };
  moves = plainly (step.Close q) ∷ [];
  new_versions = [];
  refused = None;
  words = Empty;
  lines = lines_of_end q asked.kind end;
}

-- a request does what its flow says
abbrev pub takes : State → ℕ → Asked → List Draw → FlowStep → Outcome
takes s q asked draws (More flow phase) = goes s q asked draws flow phase
takes s q asked draws (Need flow wanted) = silent (record s { asked = set_flow s q asked (Some flow) })
takes s q asked draws (Wait flow) = silent (record s { asked = set_flow s q asked (Some flow) })
takes s q asked draws (End end) = finishes s q asked end

-- what a request does once a phase of it gave this
abbrev pub follows : State → ℕ → Asked → PhaseEnd AnyRow → Option Flow → Outcome
follows s q asked end None = silent s
follows s q asked end (Some flow) =
    let now = clock s.world asked.node in
    takes (record s { saw = record { request = q; end = end } ∷ s.saw }) q asked (draws_of s q flow.block flow.stage end now) (next flow end now)

-- the same, of a request that may never have been asked for
abbrev pub follow : State → ℕ → Option Asked → PhaseEnd AnyRow → Outcome
follow s q None end = silent s
follow s q (Some asked) end = follows s q asked end asked.flow

-- what requests do once phases of them ended
abbrev pub goes_on : State → List (Ended AnyRow) → Outcome
goes_on s [] = silent s
goes_on s (e ∷ es) = follow s e.request (numbered s.asked e.request) e.how

-- an outcome before which this step was done
abbrev pub after_step : Moving → Effect AnyRow → Outcome → Outcome
after_step m e o = record { state = o.state; moves = m ∷ o.moves; new_versions = o.new_versions; refused = e.refused; words = e.words; lines = e.tells ++ o.lines }

-- a delivery, and in the same step what the request does whose phase it ended
abbrev pub delivers : State → ℕ → Outcome
delivers s m =
    let d = plainly (step.Deliver m) in
    let e = effect s d in after_step d e (goes_on (doing s d) e.ends)

-- two outcomes one after the other, without a refusal or words of their own
abbrev pub then_drains : Outcome → Outcome → Outcome
then_drains first rest = record { state = rest.state; moves = first.moves ++ rest.moves; new_versions = first.new_versions ++ rest.new_versions; refused = None; words = Empty; lines = first.lines ++ rest.lines }

-- up to n deliveries, each of the least message that was neither delivered nor lost
abbrev pub drains : ℕ → State → Outcome
drains zero s = silent s
drains (suc n) s = elim (undelivered s.world) as (λ o. Outcome) [
  | None ↦ silent s
  | Some m ↦ let o = delivers s m in then_drains o (drains n o.state)
]

-- ---- streamed uploads

-- the request is open
abbrev pub is_open_at : World → ℕ → Bool
is_open_at w q = option_map_or (λ r. r.is_open) (numbered w.requests q) false

-- what a request needs of its client that is asked so
abbrev pub needed : Option Asked → Option ℕ
needed asked = option_and_then (λ (a : Asked). option_and_then stream.need_of a.flow) asked

-- what request q needs of its client: a block of so many bytes, or 0, to be told whether it is kept; nothing unless it is open
abbrev pub need_at : State → ℕ → Option ℕ
need_at s q = if is_open_at s.world q then needed (numbered s.asked q) else None

-- a request whose client was heard begins its next phase, where there is one
abbrev pub hears : State → ℕ → Asked → stream.Step → Outcome
hears s q asked None = silent s
hears s q asked (Some next) = goes s q asked [] next.0 next.1

-- what a request does, by what its flow says, once its client was heard
abbrev pub heard_in : State → ℕ → (Flow → stream.Step) → Asked → Option Flow → Outcome
heard_in s q says asked None = silent s
heard_in s q says asked (Some flow) = hears s q asked (says flow)

-- the same, of a request that may never have been asked for
abbrev pub heard : State → ℕ → (Flow → stream.Step) → Option Asked → Outcome
heard s q says None = silent s
heard s q says (Some asked) = heard_in s q says asked asked.flow

-- request q goes on with a block that has come
abbrev pub feeding : State → ℕ → List ℕ → Outcome
feeding s q bytes = heard s q (λ flow. stream.fed flow bytes) (numbered s.asked q)

-- request q is given up
abbrev pub giving_up : State → ℕ → Outcome
giving_up s q = heard s q stream.given_up (numbered s.asked q)

-- the draws of a request that waits so when it is to be kept: a streamed upload makes its object of what it has received
abbrev pub fills_of : State → ℕ → ℕ → Stage → List Draw
fills_of s q block (Needing name version coming received) =
    record { request = q; name = name; version = version; wish = wish.Content (content_of coming received); block = block; moment = length s.history } ∷ []
fills_of s q block stage = []

abbrev pub fills_in : State → ℕ → Option Flow → List Draw
fills_in s q None = []
fills_in s q (Some flow) = fills_of s q flow.block flow.stage

abbrev pub fills_at : State → ℕ → Option Asked → List Draw
fills_at s q None = []
fills_at s q (Some asked) = fills_in s q asked.flow

-- request q is kept
abbrev pub keeping : State → ℕ → Outcome
keeping s q = heard (record s { draws = fills_at s q (numbered s.asked q) ++ s.draws }) q stream.finished (numbered s.asked q)
