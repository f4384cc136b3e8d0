-- No upload is given up but by its client: none is by what events do, nor by what follows where a phase ended.
use Rattle.std.proofs.Common.{◌≡◌, inl, inr, ℕ, zero, suc, ◌-◌, Bool, true, false, if◌then◌else◌, Option, Some, None, List, [], ◌∷◌, ◌++◌, length, refl, ap, ◌∙◌, subst}
use Rattle.std.specs.Prelude.{⊤, slice_set}
use Rattle.crdt_rows.specs.declared.version.Version.{Version}
use Rattle.crdt_rows.specs.declared.body.Meta.{Meta}
use Rattle.crdt_rows.specs.declared.version_row.BlockRef.{BlockRef}
use Rattle.crdt_rows.specs.declared.object_row.ObjectRow.{ObjectRow}
use Rattle.crdt_rows.specs.declared.any_row.AnyRow.{AnyRow}
use Rattle.wire_messages.specs.declared.phase.Phase.TheVariants.{Store}
use Rattle.wire_messages.specs.declared.phase.PhaseEnd.{PhaseEnd}
use Rattle.wire_messages.specs.declared.phase.PhaseEnd.TheVariants.{Row, Window, Kept, Block}
use Rattle.cluster_machine.specs.declared.step.Refusal.TheVariants.{NotMember, NoSuchBucket}
use Rattle.cluster_machine.specs.declared.step.Step.TheVariants as step
use Rattle.cluster_machine.specs.Layouts.{layouts}
use Rattle.cluster_machine.specs.Node.{Ended}
use Rattle.cluster_machine.specs.World.{numbered, clock, is_member_at, undelivered}
use Rattle.cluster_machine.specs.Choices.{Decision}
use Rattle.machine_origins.proofs.Places.{numbered_set_cases, numbered_push_cases}
use Rattle.flow_model.specs.declared.order.Order.{Order}
use Rattle.flow_model.specs.declared.order.Order.TheVariants as order
use Rattle.flow_model.specs.declared.flow.Name.{Name}
use Rattle.flow_model.specs.declared.flow.Content.{Content}
use Rattle.flow_model.specs.declared.flow.Wish.{Wish}
use Rattle.flow_model.specs.declared.flow.Wish.TheVariants as wish
use Rattle.flow_model.specs.declared.flow.Aim.{Aim}
use Rattle.flow_model.specs.declared.flow.Aim.TheVariants as aim
use Rattle.flow_model.specs.declared.flow.Stage.{Stage}
use Rattle.flow_model.specs.declared.flow.Stage.TheVariants.{Drawing, Uploading, Receiving, Aborting, Completing, Looking, Opening, Gathering, Listing}
use Rattle.flow_model.specs.declared.flow.Flow.{Flow}
use Rattle.flow_model.specs.declared.flow.FlowStep.{FlowStep}
use Rattle.flow_model.specs.declared.flow.FlowStep.TheVariants.{More, Need, Wait, End}
use Rattle.flow_model.specs.declared.flow.FlowEnd.TheVariants.{Aborted}
use Rattle.flow_model.specs.Blocks.{has_piece, is_long}
use Rattle.flow_model.specs.Flow.{started}
use Rattle.flow_model.specs.Rows.{uploading, block_rows}
use Rattle.flow_model.specs.Says.{Said, none, marked, inline, in_blocks, said_of, shown_rows, Named, unnamed, whole, deleted, named_by}
use Rattle.flow_model.specs.Next.{drawn, stores, more, completes, writes, uploads, found, reads_on, looked, gathers, opened, lists, goes_on as flow_goes_on, next}
use Rattle.store_model.specs.declared.event.Event.{Event}
use Rattle.store_model.specs.declared.event.Event.TheVariants as event
use Rattle.store_model.specs.Orders.{buckets_of}
use Rattle.store_model.specs.Run.{Moving, State, Asked, Draw, Outcome, silent, refusal, plainly, effect, doing, are_buckets, new_request, opened as opens_request, begins, draws_of, takes, follows, follow, goes_on, delivers, then_drains, drains}
use Rattle.store_model.specs.Events.{object_bytes, outcome}
use Rattle.audit_laws.specs.Account.{IsNotGivenUp, NoneGivenUp}

-- ---- what a request goes on with

-- what a request does isn't that it was given up
abbrev pub IsNoGivingUp : FlowStep → Type 0
IsNoGivingUp (More flow phase) = IsNotGivenUp flow.stage
IsNoGivingUp (Need flow wanted) = IsNotGivenUp flow.stage
IsNoGivingUp (Wait flow) = IsNotGivenUp flow.stage
IsNoGivingUp (End Aborted) = ⊥
IsNoGivingUp (End end) = ⊤

module _ (id block : ℕ) where
  writes_goes : (name : Name) (v : Version) (w : Wish) → IsNoGivingUp (writes id block name v w)
  writes_goes name v wish.Marker = tt
  writes_goes name v (wish.Stream coming) = tt
  writes_goes name v (wish.Content c) =
      elim (is_long c.body) as (λ b. IsNoGivingUp (elim b as (λ b. FlowStep) [ true ↦ more id block (Uploading name v c 0) (stores (uploading name v)) | false ↦ completes id block name v (wish.Content c) ])) [
        | true ↦ tt
        | false ↦ tt
      ]

  uploads_goes : (name : Name) (v : Version) (c : Content) (i : ℕ) → IsNoGivingUp (uploads id block name v c i)
  uploads_goes name v c i =
      elim (has_piece block c.body i) as (λ b. IsNoGivingUp (elim b as (λ b. FlowStep) [ true ↦ more id block (Uploading name v c (suc i)) (Store (block_rows v.id block c.body i)) | false ↦ completes id block name v (wish.Content c) ])) [
        | true ↦ tt
        | false ↦ tt
      ]

  found_goes : (a : Aim) (v : Version) (meta : Meta) (body : List ℕ) → IsNoGivingUp (found id block a v meta body)
  found_goes aim.Get v meta body = tt
  found_goes aim.Head v meta body = tt
  found_goes (aim.Copy name headers) v meta body = tt

  gathers_goes : (a : Aim) (v : Version) (meta : Meta) (left : List BlockRef) (body : List ℕ) → IsNoGivingUp (gathers id block a v meta left body)
  gathers_goes a v meta [] body = found_goes a v meta body
  gathers_goes a v meta (b ∷ left) body = tt

  opened_goes : (a : Aim) (v : Version) (meta : Meta) (named : Named) → IsNoGivingUp (opened id block a v meta named)
  opened_goes a v meta unnamed = tt
  opened_goes a v meta (whole blocks) = gathers_goes a v meta blocks []
  opened_goes a v meta deleted = tt

  reads_on_goes : (a : Aim) (v : Version) (meta : Meta) → IsNoGivingUp (reads_on id block a v meta)
  reads_on_goes aim.Get v meta = tt
  reads_on_goes aim.Head v meta = tt
  reads_on_goes (aim.Copy name headers) v meta = tt

  looked_goes : (a : Aim) (said : Said) → IsNoGivingUp (looked id block a said)
  looked_goes a none = tt
  looked_goes a (marked v) = tt
  looked_goes a (inline v meta body) = found_goes a v meta body
  looked_goes a (in_blocks v meta first) = reads_on_goes a v meta

  lists_goes : (bucket prefix : List ℕ) (rows : List ObjectRow) (reach : Option (List ℕ)) → IsNoGivingUp (lists id block bucket prefix rows reach)
  lists_goes bucket prefix rows None = tt
  lists_goes bucket prefix rows (Some after) = tt

  stage_goes : (stage : Stage) (end : PhaseEnd AnyRow) (now : ℕ) → IsNotGivenUp stage → IsNoGivingUp (flow_goes_on id block stage end now)
  stage_goes (Drawing name w) (Row value) now h = writes_goes name (drawn id value now) w
  stage_goes (Uploading name v c stored) Kept now h = uploads_goes name v c stored
  stage_goes (Receiving name v coming received) Kept now h = tt
  stage_goes (Completing v meta) Kept now h = tt
  stage_goes (Looking name a) (Row value) now h = looked_goes a (said_of value)
  stage_goes (Opening v meta a) (Row value) now h = opened_goes a v meta (named_by value meta.size)
  stage_goes (Gathering v meta a left body) (Block bytes) now h = gathers_goes a v meta left (body ++ bytes)
  stage_goes (Listing bucket prefix rows) (Window others reach) now h = lists_goes bucket prefix (rows ++ shown_rows others) reach
  stage_goes (Aborting v) end now h = absurd h
  stage_goes _ _ now h = tt

-- what a request does whose phase ended
pub next_goes : (flow : Flow) (end : PhaseEnd AnyRow) (now : ℕ) → IsNotGivenUp flow.stage → IsNoGivingUp (next flow end now)
next_goes flow end now h = stage_goes flow.id flow.block flow.stage end now h

started_goes : (o : Order) (q block : ℕ) → IsNotGivenUp (started o q block).0.stage
started_goes (order.Put bucket key body headers) q block = tt
started_goes (order.Stream bucket key length headers) q block = tt
started_goes (order.Get bucket key) q block = tt
started_goes (order.Head bucket key) q block = tt
started_goes (order.Delete bucket key) q block = tt
started_goes (order.Copy from_bucket from_key bucket key headers) q block = tt
started_goes (order.List bucket prefix) q block = tt

-- ---- the requests of a state

-- what is waited for isn't for the end of one that was given up
abbrev WaitsOn : Option Flow → Type 0
WaitsOn flow = (f : Flow) → flow ≡ Some f → IsNotGivenUp f.stage

some_goes : (flow : Flow) → IsNotGivenUp flow.stage → WaitsOn (Some flow)
some_goes flow h f is = let there : Some flow ≡ Some f = is in let same : flow ≡ f = cc in subst (λ (g : Flow). IsNotGivenUp g.stage) same h

set_goes : (asked : List Asked) (q : ℕ) (a : Asked) (flow : Option Flow) → numbered asked q ≡ Some a → WaitsOn flow → NoneGivenUp asked → NoneGivenUp (slice_set asked (q - 1) (record a { flow = flow }))
set_goes asked q a flow at one so p x f is flow_is = elim (numbered_set_cases asked q p a (record a { flow = flow }) x at is) [
  | inl here ↦ one f (ap (λ (y : Asked). y.flow) here.1 ∙ flow_is)
  | inr old ↦ so p x f old flow_is
]

push_goes : (asked : List Asked) (new : Asked) → WaitsOn new.flow → NoneGivenUp asked → NoneGivenUp (asked ++ new ∷ [])
push_goes asked new one so p x f is flow_is = elim (numbered_push_cases asked new p x is) [
  | inl old ↦ so p x f old flow_is
  | inr last ↦ one f (ap (λ (y : Asked). y.flow) last.1 ∙ flow_is)
]

-- no request is given up in what comes of this
abbrev Goes : Outcome → Type 0
Goes o = NoneGivenUp o.state.asked

takes_goes : (s : State) (q : ℕ) (a : Asked) (draws : List Draw) (does : FlowStep) → numbered s.asked q ≡ Some a → IsNoGivingUp does → NoneGivenUp s.asked → Goes (takes s q a draws does)
takes_goes s q a draws (More flow phase) at h so = set_goes s.asked q a (Some flow) at (some_goes flow h) so
takes_goes s q a draws (Need flow wanted) at h so = set_goes s.asked q a (Some flow) at (some_goes flow h) so
takes_goes s q a draws (Wait flow) at h so = set_goes s.asked q a (Some flow) at (some_goes flow h) so
takes_goes s q a draws (End end) at h so = set_goes s.asked q a None at (λ f is. cc) so

follows_goes : (s : State) (q : ℕ) (a : Asked) (end : PhaseEnd AnyRow) (o : Option Flow) → numbered s.asked q ≡ Some a → WaitsOn o → NoneGivenUp s.asked → Goes (follows s q a end o)
follows_goes s q a end None at h so = so
follows_goes s q a end (Some flow) at h so =
    let now = clock s.world a.node in
    takes_goes (record s { saw = record { request = q; end = end } ∷ s.saw }) q a (draws_of s q flow.block flow.stage end now) (next flow end now) at (next_goes flow end now (h flow refl)) so

follow_goes : (s : State) (q : ℕ) (o : Option Asked) (end : PhaseEnd AnyRow) → numbered s.asked q ≡ o → NoneGivenUp s.asked → Goes (follow s q o end)
follow_goes s q None end at so = so
follow_goes s q (Some a) end at so = follows_goes s q a end a.flow at (λ f is. so q a f at is) so

goes_on_goes : (s : State) (ends : List (Ended AnyRow)) → NoneGivenUp s.asked → Goes (goes_on s ends)
goes_on_goes s [] so = so
goes_on_goes s (e ∷ es) so = follow_goes s e.request (numbered s.asked e.request) e.how refl so

pub delivers_goes : (s : State) (m : ℕ) → NoneGivenUp s.asked → Goes (delivers s m)
delivers_goes s m so = let d : Moving = plainly (step.Deliver m) in goes_on_goes (doing s d) (effect s d).ends so

drains_goes : (n : ℕ) (s : State) → NoneGivenUp s.asked → Goes (drains n s)
drains_goes zero s so = so
drains_goes (suc n) s so =
    elim (undelivered s.world) as (λ o. Goes (elim o as (λ o. Outcome) [ None ↦ silent s | Some m ↦ let o = delivers s m in then_drains o (drains n o.state) ])) [
      | None ↦ so
      | Some m ↦ drains_goes n (delivers s m).state (delivers_goes s m so)
    ]

begins_goes : (s : State) (n : ℕ) (o : Order) → NoneGivenUp s.asked → Goes (begins s n o)
begins_goes s n o so = by_tests (is_member_at layouts s.world n) (are_buckets s.buckets (buckets_of o)) where
  by_tests : (b c : Bool) → Goes (if b then (if c then opens_request s n o else refusal s NoSuchBucket) else refusal s NotMember)
  by_tests true true =
      let first : Flow = (started o (suc (length s.world.requests)) s.block).0 in
      push_goes s.asked (new_request n o first) (some_goes first (started_goes o (suc (length s.world.requests)) s.block)) so
  by_tests true false = so
  by_tests false c = so

-- no event of a schedule gives a request up
pub event_goes : (s : State) (e : Event) (choice : Decision) → NoneGivenUp s.asked → Goes (outcome s e choice)
event_goes s event.Trio choice so = so
event_goes s (event.Block size) choice so = so
event_goes s (event.Bucket name) choice so = so
event_goes s (event.Role n role) choice so = so
event_goes s (event.Redundancy wanted) choice so = so
event_goes s (event.Apply n) choice so = so
event_goes s (event.Tick ms) choice so = so
event_goes s (event.Skew n ms) choice so = so
event_goes s (event.Put n bucket key size fill) choice so = begins_goes s n (order.Put bucket key (object_bytes size fill) []) so
event_goes s (event.Get n bucket key) choice so = begins_goes s n (order.Get bucket key) so
event_goes s (event.Head n bucket key) choice so = begins_goes s n (order.Head bucket key) so
event_goes s (event.Delete n bucket key) choice so = begins_goes s n (order.Delete bucket key) so
event_goes s (event.Copy n from_bucket from_key bucket key) choice so = begins_goes s n (order.Copy from_bucket from_key bucket key None) so
event_goes s (event.List n bucket prefix) choice so = begins_goes s n (order.List bucket prefix) so
event_goes s (event.Deliver m) choice so = delivers_goes s m so
event_goes s (event.Lose m) choice so = so
event_goes s (event.Drain n) choice so = drains_goes n s so
event_goes s (event.Expire q) choice so = so
event_goes s (event.Restart n) choice so = so
event_goes s (event.Gossip from to) choice so = so
event_goes s (event.Ack n) choice so = so
event_goes s (event.Sync n) choice so = so
event_goes s (event.SyncAck n) choice so = so
event_goes s (event.Clean n) choice so = so
event_goes s (event.Work n) choice so = so
event_goes s (event.Repair n) choice so = so
event_goes s (event.Collect n) choice so = so
