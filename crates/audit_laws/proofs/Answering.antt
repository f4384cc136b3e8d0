-- Each event answers with words that it may.
use Rattle.std.proofs.Common.{◌≡◌, ℕ, zero, suc, Bool, true, false, not, ◌&&◌, leb, cond, if◌then◌else◌, Option, Some, None, [], ◌∷◌, refl}
use Rattle.layout_roles.specs.declared.layout.Layout.{Layout}
use Rattle.view_model.specs.View.{newest, read_version, ack_least}
use Rattle.view_model.specs.Layouts.{reading}
use Rattle.crdt_rows.specs.declared.any_row.AnyRow.{AnyRow}
use Rattle.crdt_rows.specs.AnyRow.{any_join}
use Rattle.object_schema.specs.Schema.{words}
use Rattle.cluster_machine.specs.declared.step.Refusal.TheVariants.{VersionTaken, VersionLimit, NotMember, Lost, AlreadyEnded, NoSuchBucket}
use Rattle.cluster_machine.specs.declared.step.Words.TheVariants.{One}
use Rattle.cluster_machine.specs.Layouts.{layouts, has_none}
use Rattle.cluster_machine.specs.World.{Sent, Mark, Request, numbered, clock, is_member_at, undelivered}
use Rattle.cluster_machine.specs.Node.{Node, Round, quiet}
use Rattle.cluster_machine.specs.Receives.{receives}
use Rattle.cluster_machine.specs.Phases.{closed}
use Rattle.cluster_machine.specs.Acts.{Acted, acts, syncs}
use Rattle.cluster_machine.specs.Rounds.{may_sync, begin_round}
use Rattle.cluster_machine.specs.declared.step.LocalEnd.TheVariants.{At, Idle as IsIdle}
use Rattle.cluster_machine.specs.declared.line.Line.TheVariants.{Ended as HasEnded}
use Rattle.cluster_machine.specs.declared.line.EndWord.TheVariants.{Expired}
use Rattle.cluster_machine.specs.declared.step.Action.TheVariants.{Ack as RaiseAck, Sync as GoOn, SyncAck as RaiseSyncAck, Clean as CleanUp, Work as WorkOff, Repair as Mend, Collect as Gather}
use Rattle.cluster_machine.specs.Choices.{Decision}
use Rattle.cluster_machine.specs.Step.{most_versions, given, none_given, nothing, refusal as world_refusal, at_message, expires, chosen, applies_at, trio_applies, acting, did, received, only, told}
use Rattle.cluster_machine.specs.Trio.{trio, stage_trio}
use Rattle.cluster_machine.specs.Worlds.{Done as Effect}
use Rattle.flow_model.specs.declared.order.Order.{Order}
use Rattle.flow_model.specs.declared.order.Order.TheVariants as order
use Rattle.store_model.specs.declared.event.Event.{Event}
use Rattle.store_model.specs.declared.event.Event.TheVariants as event
use Rattle.store_model.specs.Orders.{buckets_of}
use Rattle.store_model.specs.Run.{World, State, Outcome, silent, refusal, opened, begins as begins_at, drains, delivers, then_drains, are_buckets}
use Rattle.store_model.specs.Events.{object_bytes, outcome}
use Rattle.audit_model.specs.Heard.{asking_of, is_answer}
use Rattle.audit_laws.specs.Told.{IsAnswered}

-- what this does answers the event
abbrev May : Event → Effect AnyRow → Type 0
May e x = IsAnswered e None x.refused x.words

abbrev Answers : Event → Outcome → Type 0
Answers e o = IsAnswered e (asking_of e) o.refused o.words

may_cond : (e : Event) (b : Bool) (x y : Effect AnyRow) → May e x → May e y → May e (cond b x y)
may_cond e true x y h k = h
may_cond e false x y h k = k

by_if : (e : Event) (b : Bool) (o p : Outcome) → Answers e o → Answers e p → Answers e (if b then o else p)
by_if e true o p h k = h
by_if e false o p h k = k

module _ (w : World) where
  message_may : (e : Event) (f : Sent AnyRow Layout → Effect AnyRow) → ((s : Sent AnyRow Layout) → May e (f s)) → (o : Option (Sent AnyRow Layout)) (mark : Option Mark) → May e (at_message w f o mark)
  message_may e f each None mark = refl
  message_may e f each (Some s) None = refl
  message_may e f each (Some s) (Some mark) = may_cond e mark.is_lost (world_refusal w Lost) (f s) refl (each s)

  expires_may : (q p : ℕ) (o : Option Request) → May (event.Expire p) (expires w q o)
  expires_may q p None = refl
  expires_may q p (Some r) = may_cond (event.Expire p) r.is_open (record (nothing w) { nodes = only r.coordinator (closed q (w.nodes r.coordinator)); closes = q ∷ []; tells = HasEnded q Expired ∷ [] }) (world_refusal w AlreadyEnded) refl refl

  chosen_may : (n next : ℕ) (choice : Decision) → May (event.Apply n) (chosen any_join words layouts trio stage_trio w n next choice)
  chosen_may n next (none_given r) = refl
  chosen_may n next (given l shown) = refl

  applies_may : (n : ℕ) (choice : Decision) → May (event.Apply n) (applies_at any_join words layouts trio stage_trio w n choice)
  applies_may n choice =
      let next : ℕ = suc (newest reading (w.nodes n).view) in
      let laid : Effect AnyRow = chosen any_join words layouts trio stage_trio w n next choice in
      let within : Effect AnyRow = cond (leb most_versions w.applied) (world_refusal w VersionLimit) laid in
      let free : Effect AnyRow = cond (leb next w.applied) (world_refusal w (VersionTaken next)) within in
      may_cond (event.Apply n) (leb 1 w.applied && not (is_member_at layouts w n)) (world_refusal w NotMember) free refl
      (may_cond (event.Apply n) (leb next w.applied) (world_refusal w (VersionTaken next)) within refl
      (may_cond (event.Apply n) (leb most_versions w.applied) (world_refusal w VersionLimit) laid refl (chosen_may n next choice)))

  acting_may : (e : Event) (n : ℕ) (b : Bool) (a : Acted AnyRow Layout) → is_answer e (told a.how) ≡ true → May e (acting any_join words layouts trio stage_trio w n b a)
  acting_may e n true a h = refl
  acting_may e n false a h = h

-- a sync answers its version, or that none may begin
syncs_may : (n : ℕ) (x : Node AnyRow Layout) (o : Option Round) → is_answer (event.Sync n) (told (syncs any_join words layouts n x o).how) ≡ true
syncs_may n x (Some round) = refl
syncs_may n x None =
    by_may
    (may_sync any_join words layouts n x.view)
    (record { did = begin_round any_join words layouts n x; how = At (suc (read_version reading x.view)) })
    (record { did = quiet x; how = IsIdle (read_version reading x.view) (ack_least reading x.view) })
    refl
    refl
  where
    by_may : (b : Bool) (x y : Acted AnyRow Layout) → is_answer (event.Sync n) (told x.how) ≡ true → is_answer (event.Sync n) (told y.how) ≡ true → is_answer (event.Sync n) (told (cond {A = Acted AnyRow Layout} b x y).how) ≡ true
    by_may true x y h k = h
    by_may false x y h k = k

drains_may : (p n : ℕ) (s : State) → Answers (event.Drain p) (drains n s)
drains_may p zero s = refl
drains_may p (suc n) s = by_next (undelivered s.world) where
  by_next : (o : Option ℕ) → Answers (event.Drain p) (elim o as (λ o. Outcome) [ None ↦ silent s | Some m ↦ let o = delivers s m in then_drains o (drains n o.state) ])
  by_next None = refl
  by_next (Some m) = refl

begins_may : (e : Event) (s : State) (n : ℕ) (order : Order) → ((q : ℕ) → IsAnswered e (asking_of e) None (One q)) → Answers e (begins_at s n order)
begins_may e s n order asks =
    by_if e (is_member_at layouts s.world n) _ _
    (by_if e (are_buckets s.buckets (buckets_of order)) (opened s n order) (refusal s NoSuchBucket) (asks _) refl)
    refl

-- each event answers with words that it may
pub event_answers : (s : State) (e : Event) (choice : Decision) → Answers e (outcome s e choice)
event_answers s event.Trio choice = may_cond event.Trio (leb 1 s.world.applied) (world_refusal s.world (VersionTaken 1)) (trio_applies any_join words layouts trio stage_trio s.world) refl refl
event_answers s (event.Block size) choice = refl
event_answers s (event.Bucket name) choice = refl
event_answers s (event.Role n role) choice = refl
event_answers s (event.Redundancy wanted) choice = refl
event_answers s (event.Apply n) choice = applies_may s.world n choice
event_answers s (event.Tick ms) choice = refl
event_answers s (event.Skew n ms) choice = refl
event_answers s (event.Put n bucket key size fill) choice = begins_may (event.Put n bucket key size fill) s n (order.Put bucket key (object_bytes size fill) []) (λ q. tt)
event_answers s (event.Get n bucket key) choice = begins_may (event.Get n bucket key) s n (order.Get bucket key) (λ q. tt)
event_answers s (event.Head n bucket key) choice = begins_may (event.Head n bucket key) s n (order.Head bucket key) (λ q. tt)
event_answers s (event.Delete n bucket key) choice = begins_may (event.Delete n bucket key) s n (order.Delete bucket key) (λ q. tt)
event_answers s (event.Copy n from_bucket from_key bucket key) choice = begins_may (event.Copy n from_bucket from_key bucket key) s n (order.Copy from_bucket from_key bucket key None) (λ q. tt)
event_answers s (event.List n bucket prefix) choice = begins_may (event.List n bucket prefix) s n (order.List bucket prefix) (λ q. tt)
event_answers s (event.Deliver m) choice =
    let w : World = s.world in
    message_may w (event.Deliver m) (λ sent. received m (did w sent.to (receives any_join words layouts sent.to (clock w sent.to) (w.nodes sent.to) sent.from sent.packet))) (λ sent. refl) (numbered w.messages m) (numbered w.marks m)
event_answers s (event.Lose m) choice =
    let w : World = s.world in message_may w (event.Lose m) (λ sent. record (nothing w) { marks = Some (m, record { is_delivered = false; is_lost = true }) }) (λ sent. refl) (numbered w.messages m) (numbered w.marks m)
event_answers s (event.Drain n) choice = drains_may n n s
event_answers s (event.Expire q) choice = expires_may s.world q q (numbered s.world.requests q)
event_answers s (event.Restart n) choice = refl
event_answers s (event.Gossip from to) choice = refl
event_answers s (event.Ack n) choice = acting_may s.world (event.Ack n) n (has_none layouts (s.world.nodes n).view) (acts any_join words layouts n (clock s.world n) (s.world.nodes n) RaiseAck) refl
event_answers s (event.Sync n) choice =
    acting_may s.world (event.Sync n) n (has_none layouts (s.world.nodes n).view) (acts any_join words layouts n (clock s.world n) (s.world.nodes n) GoOn) (syncs_may n (s.world.nodes n) (s.world.nodes n).round)
event_answers s (event.SyncAck n) choice = acting_may s.world (event.SyncAck n) n (has_none layouts (s.world.nodes n).view) (acts any_join words layouts n (clock s.world n) (s.world.nodes n) RaiseSyncAck) refl
event_answers s (event.Clean n) choice = acting_may s.world (event.Clean n) n (has_none layouts (s.world.nodes n).view) (acts any_join words layouts n (clock s.world n) (s.world.nodes n) CleanUp) refl
event_answers s (event.Work n) choice = acting_may s.world (event.Work n) n (has_none layouts (s.world.nodes n).view) (acts any_join words layouts n (clock s.world n) (s.world.nodes n) WorkOff) refl
event_answers s (event.Repair n) choice = acting_may s.world (event.Repair n) n (not (is_member_at layouts s.world n)) (acts any_join words layouts n (clock s.world n) (s.world.nodes n) Mend) refl
event_answers s (event.Collect n) choice = acting_may s.world (event.Collect n) n (has_none layouts (s.world.nodes n).view) (acts any_join words layouts n (clock s.world n) (s.world.nodes n) Gather) refl
