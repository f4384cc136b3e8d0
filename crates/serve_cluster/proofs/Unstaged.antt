-- What is staged stays so through acts that stage nothing.
use Rattle.std.specs.Prelude.{◌≡◌, ℕ, zero, suc, Bool, true, false, cond, not, ◌&&◌, ◌||◌, ◌==◌, nat_lt, if◌then◌else◌, leb, Option, Some, None, ⊤, List, [], ◌∷◌, ◌++◌, length, take, drop, refl}
use Rattle.std.specs.List.{AllByRecursion}
use Rattle.std.proofs.Common.{◌∙◌}
use Rattle.crdt_core.proofs.Each.{all_append}
use Rattle.crdt_rows.specs.AnyRow.{any_join}
use Rattle.crdt_rows.specs.declared.any_row.AnyRow.{AnyRow}
use Rattle.object_schema.specs.Schema.{words}
use Rattle.layout_roles.specs.declared.layout.Layout.{Layout}
use Rattle.layout_roles.specs.declared.cut.Cut.{Cut}
use Rattle.wire_messages.specs.declared.phase.Phase.{Phase}
use Rattle.wire_messages.specs.declared.phase.PhaseEnd.{PhaseEnd}
use Rattle.cluster_machine.specs.declared.applied.Applied.{Applied}
use Rattle.cluster_machine.specs.declared.step.Step.{Step}
use Rattle.cluster_machine.specs.declared.step.Step.TheVariants.{Trio, Role as Stage, Apply, Tick, Skew, Deliver, Lose, Expire, Restart, Gossip, Ack, Sync, SyncAck, Clean, Work, Repair, Collect, Open, Phase as Begin, Close}
use Rattle.cluster_machine.specs.declared.step.Step.TheVariants as step
use Rattle.cluster_machine.specs.declared.step.Refusal.{Refusal}
use Rattle.cluster_machine.specs.declared.step.Refusal.TheVariants.{VersionTaken, VersionLimit, NotMember, NoSuchMessage, Lost, NoSuchRequest, AlreadyEnded}
use Rattle.cluster_machine.specs.Choices.{Decision}
use Rattle.cluster_machine.specs.Layouts.{layouts, has_none}
use Rattle.cluster_machine.specs.declared.step.Action.{Action}
use Rattle.cluster_machine.specs.declared.step.Action.TheVariants.{Ack as RaiseAck, Sync as GoOn, SyncAck as RaiseSyncAck, Clean as CleanUp, Work as WorkOff, Repair as Mend, Collect as Gather}
use Rattle.cluster_machine.specs.Acts.{Acted, acts}
use Rattle.cluster_machine.specs.Receives.{receives}
use Rattle.cluster_machine.specs.Node.{Call, Ended}
use Rattle.view_model.specs.View.{newest}
use Rattle.cluster_machine.specs.Phases.{call_at}
use Rattle.cluster_machine.specs.Step.{Effects, most_versions, given, none_given, nothing, refusal, did, received, at_message, expires, closing, chosen, acting, local, begun, beginning, effects}
use Rattle.cluster_machine.specs.Trio.{trio, stage_trio}
use Rattle.cluster_machine.specs.World.{Sent, Mark, Request, numbered, clock, undelivered, is_member_at}
use Rattle.flow_model.specs.declared.order.Order.{Order}
use Rattle.flow_model.specs.declared.order.Order.TheVariants as order
use Rattle.flow_model.specs.declared.flow.Flow.{Flow}
use Rattle.flow_model.specs.declared.flow.FlowEnd.{FlowEnd}
use Rattle.flow_model.specs.declared.flow.FlowStep.{FlowStep}
use Rattle.flow_model.specs.declared.flow.FlowStep.TheVariants.{More, Need, Wait, End}
use Rattle.flow_model.specs.Flow.{started}
use Rattle.flow_model.specs.Next as flow
use Rattle.flow_model.specs.Streams as stream
use Rattle.store_model.specs.Orders.{buckets_of}
use Rattle.store_model.specs.Run.{World, Asked, Draw, State, Outcome, silent, plainly, effect, doing, takes, draws_of, follows, follow, goes_on, delivers, then_drains, drains, opened, begins, are_buckets, hears, heard_in, heard, fills_at, need_at}
use Rattle.store_model.specs.Acts.{Act, moves, asks, drain, forgets, takes as takes_end, feeds, keeps as keeps_upload, gives_up, acted, after_acts, all_messages}
use Rattle.serve_model.specs.Stores.{Job, carry, keep, leave}
use Rattle.serve_model.specs.Clusters.{Cluster, works, delivered, round, fed_block, fed_acts, decided, received_acts, streamed, order_acts, carried_acts, acts_to_end, expiry, acts_past_end, acts_then, end_in, acts_at}

abbrev Made : Type 0
Made = Effects AnyRow Layout Applied Cut

-- ---- one step

-- a step that stages no role
abbrev pub StagesNone : Step AnyRow → Type 0
StagesNone Trio = ⊥
StagesNone (Stage n role) = ⊥
StagesNone _ = ⊤

-- what is staged stays
record Keeps (w : World) (e : Made) : Type 0 where
  same : e.roles ≡ w.roles

module _ (w : World) where
  keeps : (e : Made) → e.roles ≡ w.roles → Keeps w e
  keeps e h = record { same = h }

  by_keeps : (b : Bool) (d e : Made) → Keeps w d → Keeps w e → Keeps w (cond b d e)
  by_keeps true d e h g = h
  by_keeps false d e h g = g

  of_refusal : (r : Refusal Cut) → Keeps w (refusal w r)
  of_refusal r = keeps (refusal w r) refl

  of_nothing : Keeps w (nothing w)
  of_nothing = keeps (nothing w) refl

  of_message : (f : Sent AnyRow Layout → Made) → ((x : Sent AnyRow Layout) → Keeps w (f x)) → (o : Option (Sent AnyRow Layout)) (mark : Option Mark) → Keeps w (at_message w f o mark)
  of_message f h None mark = of_refusal NoSuchMessage
  of_message f h (Some x) None = of_refusal NoSuchMessage
  of_message f h (Some x) (Some mark) = by_keeps mark.is_lost (refusal w Lost) (f x) (of_refusal Lost) (h x)

  of_expiry : (q : ℕ) (o : Option Request) → Keeps w (expires w q o)
  of_expiry q None = of_refusal NoSuchRequest
  of_expiry q (Some r) = by_keeps r.is_open _ (refusal w AlreadyEnded) (keeps _ refl) (of_refusal AlreadyEnded)

  of_closing : (q : ℕ) (o : Option Request) → Keeps w (closing w q o)
  of_closing q None = of_nothing
  of_closing q (Some r) = by_keeps r.is_open _ (nothing w) (keeps _ refl) of_nothing

  of_begun : (n : ℕ) (phase : Phase AnyRow) (o : Option (Call AnyRow)) → Keeps w (begun any_join words layouts trio stage_trio w n phase o)
  of_begun n phase None = of_nothing
  of_begun n phase (Some c) = keeps (begun any_join words layouts trio stage_trio w n phase (Some c)) refl

  of_beginning : (q : ℕ) (phase : Phase AnyRow) (o : Option Request) → Keeps w (beginning any_join words layouts trio stage_trio w q phase o)
  of_beginning q phase None = of_nothing
  of_beginning q phase (Some r) = by_keeps r.is_open _ (nothing w) (of_begun r.coordinator phase (call_at (w.nodes r.coordinator).calls q)) of_nothing

  of_chosen : (n next : ℕ) (choice : Decision) → Keeps w (chosen any_join words layouts trio stage_trio w n next choice)
  of_chosen n next (none_given r) = of_refusal r
  of_chosen n next (given l shown) = keeps (chosen any_join words layouts trio stage_trio w n next (given l shown)) refl

  of_acting : (n : ℕ) (b : Bool) (a : Acted AnyRow Layout) → Keeps w (acting any_join words layouts trio stage_trio w n b a)
  of_acting n true a = of_refusal NotMember
  of_acting n false a = keeps (acting any_join words layouts trio stage_trio w n false a) refl

  of_local : (n : ℕ) (action : Action) → Keeps w (local any_join words layouts trio stage_trio w n action)
  of_local n action = of_acting n (has_none layouts (w.nodes n).view) (acts any_join words layouts n (clock w n) (w.nodes n) action)

  step_keeps : (step : Step AnyRow) (choice : Decision) → StagesNone step → Keeps w (effects any_join words layouts trio stage_trio w step choice)
  step_keeps (Apply n) choice h =
      let next = suc (newest layouts.reading (w.nodes n).view) in
      let last = chosen any_join words layouts trio stage_trio w n next choice in
      let third : Made = cond (leb most_versions w.applied) (refusal w VersionLimit) last in
      let second : Made = cond (leb next w.applied) (refusal w (VersionTaken next)) third in
      by_keeps (leb 1 w.applied && not (is_member_at layouts w n)) (refusal w NotMember) second (of_refusal NotMember)
      (by_keeps (leb next w.applied) (refusal w (VersionTaken next)) third (of_refusal (VersionTaken next)) (by_keeps (leb most_versions w.applied) (refusal w VersionLimit) last (of_refusal VersionLimit) (of_chosen n next choice)))
  step_keeps (Deliver m) choice h =
      of_message (λ sent. received m (did w sent.to (receives any_join words layouts sent.to (clock w sent.to) (w.nodes sent.to) sent.from sent.packet))) (λ x. keeps _ refl) (numbered w.messages m) (numbered w.marks m)
  step_keeps (Lose m) choice h = of_message (λ sent. record (nothing w) { marks = Some (m, record { is_delivered = false; is_lost = true }) }) (λ x. keeps _ refl) (numbered w.messages m) (numbered w.marks m)
  step_keeps (Expire q) choice h = of_expiry q (numbered w.requests q)
  step_keeps (Ack n) choice h = of_local n RaiseAck
  step_keeps (Sync n) choice h = of_local n GoOn
  step_keeps (SyncAck n) choice h = of_local n RaiseSyncAck
  step_keeps (Clean n) choice h = of_local n CleanUp
  step_keeps (Work n) choice h = of_local n WorkOff
  step_keeps (Repair n) choice h = of_acting n (not (is_member_at layouts w n)) (acts any_join words layouts n (clock w n) (w.nodes n) Mend)
  step_keeps (Collect n) choice h = of_local n Gather
  step_keeps (Open n) choice h = by_keeps (is_member_at layouts w n) _ (refusal w NotMember) (keeps _ refl) (of_refusal NotMember)
  step_keeps (Begin q phase) choice h = of_beginning q phase (numbered w.requests q)
  step_keeps (Close q) choice h = of_closing q (numbered w.requests q)
  step_keeps Trio choice h = absurd h
  step_keeps (Stage n role) choice h = absurd h
  step_keeps (Tick ms) choice h = keeps (effects any_join words layouts trio stage_trio w (Tick ms) choice) refl
  step_keeps (Skew n ms) choice h = keeps (effects any_join words layouts trio stage_trio w (Skew n ms) choice) refl
  step_keeps (Restart n) choice h = keeps (effects any_join words layouts trio stage_trio w (Restart n) choice) refl
  step_keeps (Gossip from to) choice h = keeps (effects any_join words layouts trio stage_trio w (Gossip from to) choice) refl
  step_keeps (step.Redundancy r) choice h = keeps (effects any_join words layouts trio stage_trio w (step.Redundancy r) choice) refl

step_leaves : (w : World) (step : Step AnyRow) (choice : Decision) → StagesNone step → (effects any_join words layouts trio stage_trio w step choice).roles ≡ w.roles
step_leaves w step choice h = (step_keeps w step choice h).same

-- ---- outcomes of requests

abbrev Leaves : State → State → Type 0
Leaves s t = t.world.roles ≡ s.world.roles

takes_leave : (s : State) (q : ℕ) (m : Asked) (draws : List Draw) (does : FlowStep) → Leaves s (takes s q m draws does).state
takes_leave s q m draws (More f phase) = step_leaves s.world (Begin q phase) (none_given VersionLimit) tt
takes_leave s q m draws (Need f wanted) = refl
takes_leave s q m draws (Wait f) = refl
takes_leave s q m draws (End end) = step_leaves s.world (Close q) (none_given VersionLimit) tt

follows_leave : (s : State) (q : ℕ) (m : Asked) (end : PhaseEnd AnyRow) (f : Option Flow) → Leaves s (follows s q m end f).state
follows_leave s q m end None = refl
follows_leave s q m end (Some f) = let now = clock s.world m.node in takes_leave (record s { saw = record { request = q; end = end } ∷ s.saw }) q m (draws_of s q f.block f.stage end now) (flow.next f end now)

follow_leaves : (s : State) (q : ℕ) (m : Option Asked) (end : PhaseEnd AnyRow) → Leaves s (follow s q m end).state
follow_leaves s q None end = refl
follow_leaves s q (Some m) end = follows_leave s q m end m.flow

on_leaves : (s : State) (ends : List (Ended AnyRow)) → Leaves s (goes_on s ends).state
on_leaves s [] = refl
on_leaves s (e ∷ es) = follow_leaves s e.request (numbered s.asked e.request) e.how

delivers_leave : (s : State) (m : ℕ) → Leaves s (delivers s m).state
delivers_leave s m =
    let t = doing s (plainly (Deliver m)) in
    on_leaves t (effect s (plainly (Deliver m))).ends ∙ step_leaves s.world (Deliver m) (none_given VersionLimit) tt

drains_leave : (n : ℕ) (s : State) → Leaves s (drains n s).state
drains_leave zero s = refl
drains_leave (suc n) s =
    elim (undelivered s.world) as (λ o. Leaves s (elim o as (λ o. Outcome) [ None ↦ silent s | Some m ↦ let o = delivers s m in then_drains o (drains n o.state) ]).state) [
      | None ↦ refl
      | Some m ↦ (let o : Outcome = delivers s m in drains_leave n o.state ∙ delivers_leave s m)
    ]

by_leaves : (s : State) (b : Bool) (o p : Outcome) → Leaves s o.state → Leaves s p.state → Leaves s (cond b o p).state
by_leaves s true o p h g = h
by_leaves s false o p h g = g

opened_leaves : (s : State) (n : ℕ) (order : Order) → Leaves s (opened s n order).state
opened_leaves s n order =
    let q = suc (length s.world.requests) in
    let first = started order q s.block in
    let here = doing s (plainly (Open n)) in
    step_leaves here.world (Begin q first.1) (none_given VersionLimit) tt ∙ step_leaves s.world (Open n) (none_given VersionLimit) tt

begins_leave : (s : State) (n : ℕ) (order : Order) → Leaves s (begins s n order).state
begins_leave s n order =
    by_leaves s (is_member_at layouts s.world n) _ _ (by_leaves s (are_buckets s.buckets (buckets_of order)) (opened s n order) _ (opened_leaves s n order) refl) refl

next_leaves : (s : State) (q : ℕ) (a : Asked) (next : stream.Step) → Leaves s (hears s q a next).state
next_leaves s q a None = refl
next_leaves s q a (Some next) = step_leaves s.world (Begin q next.1) (none_given VersionLimit) tt

flow_leaves : (s : State) (q : ℕ) (says : Flow → stream.Step) (a : Asked) (f : Option Flow) → Leaves s (heard_in s q says a f).state
flow_leaves s q says a None = refl
flow_leaves s q says a (Some f) = next_leaves s q a (says f)

heard_leaves : (s : State) (q : ℕ) (says : Flow → stream.Step) (a : Option Asked) → Leaves s (heard s q says a).state
heard_leaves s q says None = refl
heard_leaves s q says (Some a) = flow_leaves s q says a a.flow

-- ---- acts

-- an act that stages no role
abbrev pub IsUnstaging : Act → Type 0
IsUnstaging (moves m) = StagesNone m.step
IsUnstaging (asks n order) = ⊤
IsUnstaging (drain n) = ⊤
IsUnstaging forgets = ⊤
IsUnstaging (takes_end q) = ⊤
IsUnstaging (feeds q bytes) = ⊤
IsUnstaging (keeps_upload q) = ⊤
IsUnstaging (gives_up q) = ⊤
IsUnstaging _ = ⊥

act_leaves : (s : State) (a : Act) → IsUnstaging a → Leaves s (acted s a).state
act_leaves s (moves m) h = step_leaves s.world m.step m.choice h
act_leaves s (asks n order) h = begins_leave s n order
act_leaves s (drain n) h = drains_leave n s
act_leaves s forgets h = refl
act_leaves s (takes_end q) h = refl
act_leaves s (feeds q bytes) h = heard_leaves s q (λ f. stream.fed f bytes) (numbered s.asked q)
act_leaves s (keeps_upload q) h = heard_leaves (record s { draws = fills_at s q (numbered s.asked q) ++ s.draws }) q stream.finished (numbered s.asked q)
act_leaves s (gives_up q) h = heard_leaves s q stream.given_up (numbered s.asked q)
act_leaves s _ h = elim h [ ]

pub acts_leave : (as' : List Act) (s : State) → AllByRecursion IsUnstaging as' → Leaves s (after_acts s as')
acts_leave [] s all = refl
acts_leave (a ∷ as') s all = acts_leave as' (acted s a).state all.1 ∙ act_leaves s a all.0

-- ---- the acts of a job

abbrev pub AllUnstaging : List Act → Type 0
AllUnstaging as' = AllByRecursion IsUnstaging as'

works_unstaging : (members : List ℕ) → AllUnstaging (works members)
works_unstaging [] = tt
works_unstaging (n ∷ ns) = (tt, works_unstaging ns)

round_unstaging : (members : List ℕ) → AllUnstaging (round members)
round_unstaging members = all_append IsUnstaging (works members) (drain all_messages ∷ []) (works_unstaging members) (tt, tt)

fed_unstaging : (n : ℕ) (s : State) (q : ℕ) (bytes : List ℕ) → AllUnstaging (fed_acts n s q bytes)
fed_unstaging zero s q bytes = tt
fed_unstaging (suc more) s q bytes = elim (need_at s q) as (λ o. AllUnstaging (elim o as (λ o. List Act) [
  | None ↦ []
  | Some size ↦ if size == 0 || nat_lt (length bytes) size then [] else fed_block q (take size bytes) ++ fed_acts more (after_acts s (fed_block q (take size bytes))) q (drop size bytes)
])) [
  | None ↦ tt
  | Some size ↦ elim (size == 0 || nat_lt (length bytes) size) as (λ b. AllUnstaging (if b then [] else fed_block q (take size bytes) ++ fed_acts more (after_acts s (fed_block q (take size bytes))) q (drop size bytes))) [
    | true ↦ tt
    | false ↦ (tt, (tt, fed_unstaging more (after_acts s (fed_block q (take size bytes))) q (drop size bytes)))
  ]
]

decided_unstaging : (keeping : Bool) (q : ℕ) (need : Option ℕ) → AllUnstaging (decided keeping q need)
decided_unstaging keeping q None = tt
decided_unstaging keeping q (Some size) = elim (keeping && size == 0) as (λ b. AllUnstaging (if b then keeps_upload q ∷ delivered else gives_up q ∷ delivered)) [ true ↦ (tt, (tt, tt)) | false ↦ (tt, (tt, tt)) ]

streamed_unstaging : (keeping : Bool) (s : State) (q : ℕ) (came : List ℕ) → AllUnstaging (streamed keeping s q came)
unfolding streamed
streamed_unstaging keeping s q came =
    let received : List Act = received_acts s q came in
    let need : Option ℕ = need_at (after_acts s received) q in
    all_append IsUnstaging received (decided keeping q need) (tt, fed_unstaging (length came) (after_acts s delivered) q came) (decided_unstaging keeping q need)

order_unstaging : (s : State) (q : ℕ) (o : Order) → AllUnstaging (order_acts s q o)
order_unstaging s q (order.Stream bucket key announced headers) = streamed_unstaging false s q []
order_unstaging s q _ = (tt, tt)

carried_unstaging : (s : State) (q : ℕ) (job : Job) → AllUnstaging (carried_acts s q job)
carried_unstaging s q (carry o) = order_unstaging s q o
carried_unstaging s q (keep u came) = streamed_unstaging (length came == u.length) s q came
carried_unstaging s q (leave u came) = streamed_unstaging false s q came

expiry_unstaging : (q : ℕ) (o : Option FlowEnd) → AllUnstaging (expiry q o)
expiry_unstaging q None = (tt, tt)
expiry_unstaging q (Some end) = tt

then_unstaging : (members : List ℕ) (s : State) (q : ℕ) (done : List Act) (o : Option (Refusal Cut)) → AllUnstaging done → AllUnstaging (acts_then members s q done o)
then_unstaging members s q done (Some reason) all = tt
then_unstaging members s q done None all =
    let end = end_in members s q done in
    all_append IsUnstaging (acts_to_end members done) (acts_past_end q end)
    (all_append IsUnstaging (done ++ round members) (round members) (all_append IsUnstaging done (round members) all (round_unstaging members)) (round_unstaging members))
    (tt, all_append IsUnstaging (expiry q end) (forgets ∷ []) (expiry_unstaging q end) (tt, tt))

-- a job leaves what is staged
pub job_leaves : (c : Cluster) (time : ℕ) (job : Job) → (after_acts c.run (acts_at c time job)).world.roles ≡ c.run.world.roles
job_leaves c time job = acts_leave (acts_at c time job) c.run (tt, (tt, then_unstaging c.members _ _ _ _ (carried_unstaging _ _ job)))
