-- The state of a run: the world, the buckets, and the requests with what each is in the middle of.
use Rattle.std.specs.Prelude.{ℕ, zero, suc, ◌-◌, ◌==◌, ◌&&◌, ◌||◌, nat_eq, Bool, true, false, if◌then◌else◌, cond, length, slice_set, map, Option, option_map, Some, None, List, [], ◌∷◌, ◌++◌}
use Rattle.std.specs.Option.{unwrap_or}
use Rattle.std.specs.Cmp.Lexicographic.{pointwise}
use Rattle.md5.specs.Md5.{md5}
use Rattle.crdt_core.specs.declared.max.Max.{Max}
use Rattle.crdt_core.specs.Map.{map_entries}
use Rattle.k2v_rows.specs.declared.value.K2vValue.{K2vValue}
use Rattle.k2v_rows.specs.declared.value.K2vValue.TheVariants.{Deleted, Value}
use Rattle.k2v_rows.specs.declared.writes.Writes.{Writes}
use Rattle.k2v_rows.specs.declared.k2v_row.K2vRow.{K2vRow}
use Rattle.k2v_rows.specs.Row.{ItemKey, row_join, after_put, can_put}
use Rattle.k2v_rows.specs.Token.{TimeMap}
use Rattle.k2v_schema.specs.Schema.{words}
use Rattle.wire_messages.specs.declared.phase.Phase.{Phase}
use Rattle.wire_messages.specs.declared.phase.Phase.TheVariants.{Store}
use Rattle.wire_messages.specs.declared.phase.PhaseEnd.{PhaseEnd}
use Rattle.wire_messages.specs.declared.phase.PhaseEnd.TheVariants.{Row, Kept}
use Rattle.cluster_machine.specs.declared.step.Step.{Step}
use Rattle.cluster_machine.specs.declared.step.Step.TheVariants as step
use Rattle.cluster_machine.specs.declared.step.Refusal.TheVariants.{VersionLimit, NotMember, NoSuchBucket}
use Rattle.cluster_machine.specs.declared.step.Words.{Words}
use Rattle.cluster_machine.specs.declared.step.Words.TheVariants.{Empty, One}
use Rattle.cluster_machine.specs.declared.line.Line.{Line}
use Rattle.cluster_machine.specs.declared.applied.Applied.{Applied}
use Rattle.cluster_machine.specs.Node.{Ended}
use Rattle.cluster_machine.specs.World.{empty, is_member_at, numbered, undelivered}
use Rattle.cluster_machine.specs.Step.{none_given}
use Rattle.cluster_machine.specs.Layouts.{layouts}
use Rattle.cluster_machine.specs.Worlds.{Model, Doing, Done as Effect, does, next as world_after}
use Rattle.k2v_model.specs.declared.order.Ask.{Ask}
use Rattle.k2v_model.specs.declared.order.Ask.TheVariants.{Write, Read}
use Rattle.k2v_model.specs.declared.order.Order.{Order}
use Rattle.k2v_model.specs.declared.line.ShownValue.{ShownValue}
use Rattle.k2v_model.specs.declared.line.ItemLine.{ItemLine}
use Rattle.k2v_model.specs.declared.line.ItemLine.TheVariants.{Cluster as Happened, WriteDone, ReadDone}
use Rattle.k2v_model.specs.declared.line.ItemRefusal.{ItemRefusal}
use Rattle.k2v_model.specs.declared.line.ItemRefusal.TheVariants.{Cluster, NoSuchToken, Busy}
use Rattle.k2v_model.specs.Orders.{key_of, is_same_key, empty_row, asks_for, is_write, no_times, token_in}

-- worlds of the machine over the rows of items
abbrev pub World : Type 0
World = Model K2vRow

-- steps of those worlds
abbrev pub Moving : Type 0
Moving = Doing K2vRow

-- what a request is doing, or how it ended
pub data Stage : Type 0 where
  reading : Stage  -- it asks for the item's row
  storing : K2vRow → Stage  -- a write stores this row
  stored : K2vRow → Stage  -- a write was acknowledged, and had stored this row
  shown : Option K2vRow → ℕ → Stage  -- a read finished with this, when so many requests had begun
  over : Stage  -- it was expired, or lost by a restart

-- a request: the node at which it began, what it was ordered to do, which writes were acknowledged when it began, and its stage
pub record ItemRequest : Type 0 where
  pub node : ℕ
  pub order : Order
  pub before : ℕ → Bool
  pub stage : Stage

-- the world, the buckets and the requests
pub record State : Type 0 where
  pub world : World
  pub buckets : List (List ℕ)
  pub requests : List ItemRequest  -- request q at place q - 1

-- nothing has happened
abbrev pub start : State
start = record { world = empty; buckets = []; requests = [] }

-- ---- what stages say

-- the request is open
abbrev pub is_open : Stage → Bool
is_open reading = true
is_open (storing row) = true
is_open (stored row) = false
is_open (shown row begun) = false
is_open over = false

-- a write was acknowledged
abbrev pub is_stored : Stage → Bool
is_stored reading = false
is_stored (storing row) = false
is_stored (stored row) = true
is_stored (shown row begun) = false
is_stored over = false

-- a read finished
abbrev pub is_shown : Stage → Bool
is_shown reading = false
is_shown (storing row) = false
is_shown (stored row) = false
is_shown (shown row begun) = true
is_shown over = false

-- the token that a finished read gives; a read that found no row, and what is no finished read, gives none
abbrev pub stage_token : Stage → TimeMap
stage_token reading = no_times
stage_token (storing row) = no_times
stage_token (stored row) = no_times
stage_token (shown None begun) = no_times
stage_token (shown (Some row) begun) = token_in row
stage_token over = no_times

-- ---- requests by number

-- there is a request, and it passes
abbrev pub passes : (ItemRequest → Bool) → Option ItemRequest → Bool
passes test None = false
passes test (Some a) = test a

-- request q is a write that was acknowledged
abbrev pub is_acknowledged : List ItemRequest → ℕ → Bool
is_acknowledged requests q = passes (λ a. is_stored a.stage) (numbered requests q)

-- request q is a finished read of the item
abbrev pub has_shown : List ItemRequest → ItemKey → ℕ → Bool
has_shown requests key q = passes (λ a. is_shown a.stage && is_same_key (key_of a.order.item) key) (numbered requests q)

-- the token of the request, where there is one
abbrev pub token_at : Option ItemRequest → TimeMap
token_at None = no_times
token_at (Some a) = stage_token a.stage

-- the request is an open write of the item at this node
abbrev pub is_open_write : ℕ → ItemKey → ItemRequest → Bool
is_open_write n key a = is_write a.order.ask && (is_open a.stage && ((a.node == n) && is_same_key (key_of a.order.item) key))

-- the least number of an open write of the item at this node, where the first of these requests has number q
abbrev pub busy_from : ℕ → List ItemRequest → ℕ → ItemKey → Option ℕ
busy_from q [] n key = None
busy_from q (a ∷ as') n key = if is_open_write n key a then Some q else busy_from (suc q) as' n key

-- the token may be given with a request for this item: none, or a finished read of it
abbrev pub is_token : List ItemRequest → ItemKey → ℕ → Bool
is_token requests key t = (t == 0) || has_shown requests key t

-- ---- what happens

-- the state after something happened, the steps of the world that it was, and what it told
pub record Outcome : Type 0 where
  pub state : State
  pub moves : List Moving
  pub refused : Option ItemRefusal
  pub words : Words
  pub lines : List ItemLine

-- nothing happened and nothing is told
abbrev pub silent : State → Outcome
silent s = record { state = s; moves = []; refused = None; words = Empty; lines = [] }

-- nothing happened, and why
abbrev pub refusal : State → ItemRefusal → Outcome
refusal s r = record (silent s) { refused = Some r }

-- a step that is given no layout
abbrev pub plainly : Step K2vRow → Moving
plainly st = record { step = st; choice = none_given VersionLimit }

-- what a step does to the world
abbrev pub effect : State → Moving → Effect K2vRow
effect s m = does row_join words s.world m

-- the state after a step of the world
abbrev pub doing : State → Moving → State
doing s m = record s { world = world_after row_join words s.world m }

-- lines of the cluster, as lines of a run over items
abbrev pub cluster_lines : List (Line Applied) → List ItemLine
cluster_lines ls = map Happened ls

-- the step by which a phase of request q begins
abbrev pub phases : ℕ → Phase K2vRow → Moving
phases q phase = plainly (step.Phase q phase)

-- the request is in this stage now
abbrev pub set_stage : List ItemRequest → ℕ → ItemRequest → Stage → List ItemRequest
set_stage requests q a stage = slice_set requests (q - 1) (record a { stage = stage })

-- ---- requests begin

-- what a request is at first
abbrev pub new_request : State → ℕ → Order → ItemRequest
new_request s n order = record { node = n; order = order; before = is_acknowledged s.requests; stage = reading }

-- the state in which a request has begun, and no phase of it has
abbrev pub with_request : State → ℕ → Order → State
with_request s n order = record (doing s (plainly (step.Open n))) { requests = s.requests ++ new_request s n order ∷ [] }

-- a request begins, and its read phase does
abbrev pub begins_reading : State → ℕ → Order → Outcome
begins_reading s n order =
    let q = suc (length s.world.requests) in
    let reads = phases q (asks_for order.item) in
    let here = with_request s n order in
    record {
      state = doing here reads;
      moves = plainly (step.Open n) ∷ reads ∷ [];
      refused = None;
      words = One q;
      lines = cluster_lines (effect here reads).tells;
    }

-- the same, unless a write of the item is open at the node
abbrev pub unless_busy : State → ℕ → Order → Option ℕ → Outcome
unless_busy s n order None = begins_reading s n order
unless_busy s n order (Some q) = refusal s (Busy q)

-- a read begins; a write does where its token is one and no other write of the item is open at the node
abbrev pub admits : State → ℕ → Order → Ask → Outcome
admits s n order (Write value token) =
    let key = key_of order.item in
    if is_token s.requests key token then unless_busy s n order (busy_from 1 s.requests n key) else refusal s (NoSuchToken token)
admits s n order Read = begins_reading s n order

-- the bucket was made
abbrev pub is_bucket : List (List ℕ) → List ℕ → Bool
is_bucket [] name = false
is_bucket (b ∷ bs) name = pointwise nat_eq b name || is_bucket bs name

-- a request begins at node n, if it is a member and the bucket was made
abbrev pub begins : State → ℕ → Order → Outcome
begins s n order =
    if is_member_at layouts s.world n
    then (if is_bucket s.buckets order.item.bucket then admits s n order order.ask else refusal s (Cluster NoSuchBucket))
    else refusal s (Cluster NotMember)

-- ---- requests go on

-- a write stores its row
abbrev pub stores : State → ℕ → ItemRequest → K2vRow → Outcome
stores s q a row =
    let here = record s { requests = set_stage s.requests q a (storing row) } in
    let m = phases q (Store ((row, None) ∷ [])) in
    record { state = doing here m; moves = m ∷ []; refused = None; words = Empty; lines = cluster_lines (effect here m).tells }

-- a request finishes
abbrev pub finishes : State → ℕ → ItemRequest → Stage → ItemLine → Outcome
finishes s q a stage line =
    let here = record s { requests = set_stage s.requests q a stage } in
    let m = plainly (step.Close q) in
    record { state = doing here m; moves = m ∷ []; refused = None; words = Empty; lines = line ∷ [] }

-- a write that has read a row, or none, stores what it makes of it: its own value stands at its node and number, and what its token has seen
-- is discarded. Where it could not be made it would wait for ever; k2v_laws shows that this never comes
abbrev pub writes : State → ℕ → ItemRequest → K2vValue → ℕ → Option K2vRow → Outcome
writes s q a value token read =
    let base = unwrap_or read (empty_row a.order.item) in
    let times = token_at (numbered s.requests token) in
    cond (can_put base a.node q times) (stores s q a (after_put base a.node q value times)) (silent s)

-- the values of a node that a read tells of, by time; those of writes that deleted are left out
abbrev pub values_of : ℕ → List (ℕ × Max K2vValue) → List ShownValue
values_of n [] = []
values_of n ((time, v) ∷ vs) = elim v.0 as (λ v. List ShownValue) [
  | Deleted ↦ values_of n vs
  | Value bytes ↦ record { node = n; time = time; size = length bytes; md5 = md5 bytes } ∷ values_of n vs
]

-- the values of all nodes, by node
abbrev pub values_in : List (ℕ × Writes) → List ShownValue
values_in [] = []
values_in (e ∷ es) = values_of e.0 (map_entries e.1.values) ++ values_in es

-- the values that a read tells of
abbrev pub values_told : Option K2vRow → List ShownValue
values_told None = []
values_told (Some row) = values_in (map_entries row.entries)

-- a write deletes
abbrev pub is_deletion : Ask → Bool
is_deletion (Write Deleted token) = true
is_deletion (Write (Value bytes) token) = false
is_deletion Read = false

-- what a request does that has read a row, or none
abbrev pub reads_on : State → ℕ → ItemRequest → Option K2vRow → Ask → Outcome
reads_on s q a read (Write value token) = writes s q a value token read
reads_on s q a read Read = finishes s q a (shown read (length s.requests)) (ReadDone q (values_told read))

-- what a request in a stage does once its phase ended so; in another stage nothing
abbrev pub follows : State → ℕ → ItemRequest → PhaseEnd K2vRow → Stage → Outcome
follows s q a (Row read) reading = reads_on s q a read a.order.ask
follows s q a Kept (storing row) = finishes s q a (stored row) (WriteDone q (is_deletion a.order.ask) a.node)
follows s q a end stage = silent s

-- the same, of a request that may never have been asked for
abbrev pub follow : State → ℕ → Option ItemRequest → PhaseEnd K2vRow → Outcome
follow s q None end = silent s
follow s q (Some a) end = follows s q a end a.stage

-- what requests do once phases of them ended
abbrev pub goes_on : State → List (Ended K2vRow) → Outcome
goes_on s [] = silent s
goes_on s (e ∷ es) = follow s e.request (numbered s.requests e.request) e.how

-- an outcome before which this step was done
abbrev pub after_step : Moving → Effect K2vRow → Outcome → Outcome
after_step m e o = record {
  state = o.state;
  moves = m ∷ o.moves;
  refused = option_map Cluster e.refused;
  words = e.words;
  lines = cluster_lines e.tells ++ o.lines;
}

-- a delivery, and in the same step what the request does whose phase it ended
abbrev pub delivers : State → ℕ → Outcome
delivers s m =
    let d = plainly (step.Deliver m) in
    let e = effect s d in after_step d e (goes_on (doing s d) e.ends)

-- two outcomes one after the other, without a refusal or words of their own
abbrev pub then_drains : Outcome → Outcome → Outcome
then_drains first rest = record {
  state = rest.state;
  moves = first.moves ++ rest.moves;
  refused = None;
  words = Empty;
  lines = first.lines ++ rest.lines;
}

-- up to n deliveries, each of the least message that was neither delivered nor lost
abbrev pub drains : ℕ → State → Outcome
drains zero s = silent s
drains (suc n) s = elim (undelivered s.world) as (λ o. Outcome) [
  | None ↦ silent s
  | Some m ↦ let o = delivers s m in then_drains o (drains n o.state)
]
