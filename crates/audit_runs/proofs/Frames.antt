-- Only roles, redundancies and trio change what is staged.
use Rattle.std.proofs.Common.{◌≡◌, ℕ, zero, suc, Bool, true, false, not, ◌&&◌, leb, cond, if◌then◌else◌, Option, Some, None, List, [], ◌∷◌, length, refl, sym, ◌∙◌}
use Rattle.std.specs.Prelude.{⊤}
use Rattle.layout_roles.specs.declared.layout.Layout.{Layout}
use Rattle.layout_roles.specs.declared.cut.Cut.{Cut}
use Rattle.crdt_rows.specs.declared.any_row.AnyRow.{AnyRow}
use Rattle.crdt_rows.specs.AnyRow.{any_join}
use Rattle.object_schema.specs.Schema.{words}
use Rattle.wire_messages.specs.declared.phase.Phase.{Phase}
use Rattle.wire_messages.specs.declared.phase.PhaseEnd.{PhaseEnd}
use Rattle.cluster_machine.specs.declared.step.Step.{Step}
use Rattle.cluster_machine.specs.declared.step.Step.TheVariants as step
use Rattle.cluster_machine.specs.declared.step.Action.{Action}
use Rattle.cluster_machine.specs.declared.step.Action.TheVariants.{Ack as RaiseAck, Sync as GoOn, SyncAck as RaiseSyncAck, Clean as CleanUp, Work as WorkOff, Repair as Mend, Collect as Gather}
use Rattle.cluster_machine.specs.declared.step.Words.TheVariants.{One}
use Rattle.cluster_machine.specs.declared.line.Line.TheVariants.{Ended as HasEnded}
use Rattle.cluster_machine.specs.declared.line.EndWord.TheVariants.{Expired}
use Rattle.cluster_machine.specs.declared.step.Refusal.{Refusal}
use Rattle.cluster_machine.specs.declared.step.Refusal.TheVariants.{VersionTaken, VersionLimit, NotMember, NoSuchBucket, Lost, AlreadyEnded}
use Rattle.cluster_machine.specs.Node.{Call, Ended}
use Rattle.cluster_machine.specs.Acts.{Acted, acts}
use Rattle.cluster_machine.specs.Receives.{receives}
use Rattle.cluster_machine.specs.Phases.{call_at, opened as opened_call, closed}
use Rattle.cluster_machine.specs.World.{Sent, Mark, Request, numbered, clock, is_member_at, undelivered}
use Rattle.cluster_machine.specs.Trio.{trio, stage_trio}
use Rattle.cluster_machine.specs.Layouts.{layouts, has_none}
use Rattle.cluster_machine.specs.Step.{given, none_given, most_versions, nothing, refusal as refused_effect, did, only, told, received, at_message, expires, closing, chosen, applies_at, trio_applies, acting, local, begun, beginning, opening, effects}
use Rattle.cluster_machine.specs.Choices.{Decision}
use Rattle.cluster_machine.specs.Worlds.{Model, Done as Effect, newest_at}
use Rattle.flow_model.specs.declared.order.Order.{Order}
use Rattle.flow_model.specs.declared.order.Order.TheVariants as order
use Rattle.flow_model.specs.declared.flow.Flow.{Flow}
use Rattle.flow_model.specs.declared.flow.FlowStep.{FlowStep}
use Rattle.flow_model.specs.declared.flow.FlowStep.TheVariants.{More, Need, Wait, End}
use Rattle.flow_model.specs.Flow.{started}
use Rattle.flow_model.specs.Next.{next}
use Rattle.store_model.specs.declared.event.Event.{Event}
use Rattle.store_model.specs.declared.event.Event.TheVariants.{Trio, Block, Bucket, Role, Redundancy, Apply, Tick, Skew, Put, Get, Head, Delete, Copy, List as Keys, Deliver, Lose, Drain, Expire, Restart, Gossip, Ack, Sync, SyncAck, Clean, Work, Repair, Collect}
use Rattle.store_model.specs.Orders.{buckets_of}
use Rattle.store_model.specs.Run.{State, Asked, Draw, Outcome, Moving, plainly, doing, silent, refusal, are_buckets, phases, opened, begins, draws_of, takes, follows, follow, goes_on, effect, delivers, then_drains, drains}
use Rattle.store_model.specs.Events.{object_bytes, outcome}
use Rattle.audit_model.specs.Printed.{Staged, stages}
use Rattle.audit_model.specs.Audit.{staged_in}
use Rattle.audit_runs.specs.Told.{stages_by}

-- the step stages nothing
abbrev StagesNothing : Step AnyRow → Type 0
StagesNothing step.Trio = ⊥
StagesNothing (step.Role n role) = ⊥
StagesNothing (step.Redundancy wanted) = ⊥
StagesNothing other = ⊤

-- what an effect leaves staged
abbrev left : Effect AnyRow → Staged
left e = record { roles = e.roles; wanted = e.redundancy }

module _ (w : Model AnyRow) where
  -- what is staged before
  abbrev here : Staged
  here = record { roles = w.roles; wanted = w.redundancy }

  either : (b : Bool) (x y : Effect AnyRow) → left x ≡ here → left y ≡ here → left (cond b x y) ≡ here
  either true x y h k = h
  either false x y h k = k

  message_keeps : (f : Sent AnyRow Layout → Effect AnyRow) → ((s : Sent AnyRow Layout) → left (f s) ≡ here) → (m : Option (Sent AnyRow Layout)) (mark : Option Mark) → left (at_message w f m mark) ≡ here
  message_keeps f each None mark = refl
  message_keeps f each (Some s) None = refl
  message_keeps f each (Some s) (Some mark) = either mark.is_lost (refused_effect w Lost) (f s) refl (each s)

  expires_keeps : (q : ℕ) (r : Option Request) → left (expires w q r) ≡ here
  expires_keeps q None = refl
  expires_keeps q (Some r) =
      either r.is_open (record (nothing w) { nodes = only r.coordinator (closed q (w.nodes r.coordinator)); closes = q ∷ []; tells = HasEnded q Expired ∷ [] }) (refused_effect w AlreadyEnded) refl refl

  closing_keeps : (q : ℕ) (r : Option Request) → left (closing w q r) ≡ here
  closing_keeps q None = refl
  closing_keeps q (Some r) = either r.is_open (record (nothing w) { nodes = only r.coordinator (closed q (w.nodes r.coordinator)); closes = q ∷ [] }) (nothing w) refl refl

  chosen_keeps : (n v : ℕ) (choice : Decision) → left (chosen any_join words layouts trio stage_trio w n v choice) ≡ here
  chosen_keeps n v (given l shown) = refl
  chosen_keeps n v (none_given r) = refl

  applies_keep : (n : ℕ) (choice : Decision) → left (applies_at any_join words layouts trio stage_trio w n choice) ≡ here
  applies_keep n choice =
      let v = suc (newest_at w n) in
      let last = chosen any_join words layouts trio stage_trio w n v choice in
      let third = cond (leb most_versions w.applied) (refused_effect w VersionLimit) last in
      let second = cond (leb v w.applied) (refused_effect w (VersionTaken v)) third in
      either (leb 1 w.applied && not (is_member_at layouts w n)) (refused_effect w NotMember) second refl
      (either (leb v w.applied) (refused_effect w (VersionTaken v)) third refl
      (either (leb most_versions w.applied) (refused_effect w VersionLimit) last refl (chosen_keeps n v choice)))

  acting_keeps : (n : ℕ) (b : Bool) (a : Acted AnyRow Layout) → left (acting any_join words layouts trio stage_trio w n b a) ≡ here
  acting_keeps n b a = either b (refused_effect w NotMember) (record (did w n a.did) { words = told a.how }) refl refl

  local_keeps : (n : ℕ) (a : Action) → left (local any_join words layouts trio stage_trio w n a) ≡ here
  local_keeps n a = acting_keeps n (has_none layouts (w.nodes n).view) (acts any_join words layouts n (clock w n) (w.nodes n) a)

  begun_keeps : (n : ℕ) (phase : Phase AnyRow) (c : Option (Call AnyRow)) → left (begun any_join words layouts trio stage_trio w n phase c) ≡ here
  begun_keeps n phase None = refl
  begun_keeps n phase (Some c) = refl

  beginning_keeps : (q : ℕ) (phase : Phase AnyRow) (r : Option Request) → left (beginning any_join words layouts trio stage_trio w q phase r) ≡ here
  beginning_keeps q phase None = refl
  beginning_keeps q phase (Some r) =
      either r.is_open (begun any_join words layouts trio stage_trio w r.coordinator phase (call_at (w.nodes r.coordinator).calls q)) (nothing w)
      (begun_keeps r.coordinator phase (call_at (w.nodes r.coordinator).calls q)) refl

  opening_keeps : (n : ℕ) → left (opening any_join words layouts trio stage_trio w n) ≡ here
  opening_keeps n =
      let q = suc (length w.requests) in
      either (is_member_at layouts w n) (record (nothing w) {
        words = One q;
        nodes = only n (opened_call q (newest_at w n) (w.nodes n));
        opens = record { coordinator = n; is_open = true } ∷ [];
      }) (refused_effect w NotMember) refl refl

  step_keeps : (st : Step AnyRow) (choice : Decision) → StagesNothing st → left (effects any_join words layouts trio stage_trio w st choice) ≡ here
  step_keeps step.Trio choice none = absurd none
  step_keeps (step.Role n role) choice none = absurd none
  step_keeps (step.Redundancy r) choice none = absurd none
  step_keeps (step.Apply n) choice none = applies_keep n choice
  step_keeps (step.Tick ms) choice none = refl
  step_keeps (step.Skew n ms) choice none = refl
  step_keeps (step.Deliver m) choice none =
      message_keeps (λ sent. received m (did w sent.to (receives any_join words layouts sent.to (clock w sent.to) (w.nodes sent.to) sent.from sent.packet))) (λ s. refl) (numbered w.messages m) (numbered w.marks m)
  step_keeps (step.Lose m) choice none =
      message_keeps (λ sent. record (nothing w) { marks = Some (m, record { is_delivered = false; is_lost = true }) }) (λ s. refl) (numbered w.messages m) (numbered w.marks m)
  step_keeps (step.Expire q) choice none = expires_keeps q (numbered w.requests q)
  step_keeps (step.Restart n) choice none = refl
  step_keeps (step.Gossip from to) choice none = refl
  step_keeps (step.Ack n) choice none = local_keeps n RaiseAck
  step_keeps (step.Sync n) choice none = local_keeps n GoOn
  step_keeps (step.SyncAck n) choice none = local_keeps n RaiseSyncAck
  step_keeps (step.Clean n) choice none = local_keeps n CleanUp
  step_keeps (step.Work n) choice none = local_keeps n WorkOff
  step_keeps (step.Repair n) choice none = acting_keeps n (not (is_member_at layouts w n)) (acts any_join words layouts n (clock w n) (w.nodes n) Mend)
  step_keeps (step.Collect n) choice none = local_keeps n Gather
  step_keeps (step.Open n) choice none = opening_keeps n
  step_keeps (step.Phase q phase) choice none = beginning_keeps q phase (numbered w.requests q)
  step_keeps (step.Close q) choice none = closing_keeps q (numbered w.requests q)

doing_keeps : (s : State) (m : Moving) → StagesNothing m.step → staged_in (doing s m) ≡ staged_in s
doing_keeps s m none = step_keeps s.world m.step m.choice none

one_keeps : (st : Staged) (b : Bool) (x y : Outcome) → staged_in x.state ≡ st → staged_in y.state ≡ st → staged_in (if b then x else y).state ≡ st
one_keeps st true x y h k = h
one_keeps st false x y h k = k

module _ (s : State) where
  opened_keeps : (n : ℕ) (order : Order) → staged_in (opened s n order).state ≡ staged_in s
  opened_keeps n order =
      let q = suc (length s.world.requests) in
      let opens = plainly (step.Open n) in
      doing_keeps (doing s opens) (phases q (started order q s.block).1) tt ∙ doing_keeps s opens tt

  begins_keeps : (n : ℕ) (order : Order) → staged_in (begins s n order).state ≡ staged_in s
  begins_keeps n order =
      let found = are_buckets s.buckets (buckets_of order) in
      one_keeps (staged_in s) (is_member_at layouts s.world n) (if found then opened s n order else refusal s NoSuchBucket) (refusal s NotMember)
      (one_keeps (staged_in s) found (opened s n order) (refusal s NoSuchBucket) (opened_keeps n order) refl) refl

  takes_keeps : (q : ℕ) (asked : Asked) (draws : List Draw) (f : FlowStep) → staged_in (takes s q asked draws f).state ≡ staged_in s
  takes_keeps q asked draws (More flow phase) = doing_keeps s (phases q phase) tt
  takes_keeps q asked draws (Need flow wanted) = refl
  takes_keeps q asked draws (Wait flow) = refl
  takes_keeps q asked draws (End end) = doing_keeps s (plainly (step.Close q)) tt

module _ (s : State) where
  follows_keeps : (q : ℕ) (asked : Asked) (end : PhaseEnd AnyRow) (flow : Option Flow) → staged_in (follows s q asked end flow).state ≡ staged_in s
  follows_keeps q asked end None = refl
  follows_keeps q asked end (Some flow) =
      let now = clock s.world asked.node in
      takes_keeps (record s { saw = record { request = q; end = end } ∷ s.saw }) q asked (draws_of s q flow.block flow.stage end now) (next flow end now)

  follow_keeps : (q : ℕ) (asked : Option Asked) (end : PhaseEnd AnyRow) → staged_in (follow s q asked end).state ≡ staged_in s
  follow_keeps q None end = refl
  follow_keeps q (Some asked) end = follows_keeps q asked end asked.flow

  goes_on_keeps : (es : List (Ended AnyRow)) → staged_in (goes_on s es).state ≡ staged_in s
  goes_on_keeps [] = refl
  goes_on_keeps (e ∷ es) = follow_keeps e.request (numbered s.asked e.request) e.how

delivers_keeps : (s : State) (m : ℕ) → staged_in (delivers s m).state ≡ staged_in s
delivers_keeps s m =
    let d = plainly (step.Deliver m) in
    goes_on_keeps (doing s d) (effect s d).ends ∙ doing_keeps s d tt

drains_keep : (n : ℕ) (s : State) → staged_in (drains n s).state ≡ staged_in s
drains_keep zero s = refl
drains_keep (suc n) s =
    elim (undelivered s.world) as (λ o. staged_in (elim o as (λ o. Outcome) [ None ↦ silent s | Some m ↦ let d = delivers s m in then_drains d (drains n d.state) ]).state ≡ staged_in s) [
      | None ↦ refl
      | Some m ↦ drains_keep n (delivers s m).state ∙ delivers_keeps s m
    ]

-- an event that stages nothing, accepted or refused
nothing_staged_by : (st : Staged) (e : Event) (r : Option (Refusal Cut)) → stages st e ≡ st → stages_by st e r ≡ st
nothing_staged_by st e None is = is
nothing_staged_by st e (Some r) is = refl

-- trio is refused once a version was applied
trio_stages : (w : Model AnyRow) (b : Bool) → (let e = cond b (refused_effect w (VersionTaken 1)) (trio_applies any_join words layouts trio stage_trio w) in left e ≡ stages_by (here w) Trio e.refused)
trio_stages w true = refl
trio_stages w false = refl

-- what is staged after an event
pub event_stages : (s : State) (e : Event) (choice : Decision) → (let o = outcome s e choice in staged_in o.state ≡ stages_by (staged_in s) e o.refused)
event_stages s Trio choice = trio_stages s.world (leb 1 s.world.applied)
event_stages s (Role n role) choice = refl
event_stages s (Redundancy wanted) choice = refl
event_stages s (Block size) choice = refl ∙ sym (nothing_staged_by (staged_in s) (Block size) (outcome s (Block size) choice).refused refl)
event_stages s (Bucket name) choice = refl ∙ sym (nothing_staged_by (staged_in s) (Bucket name) (outcome s (Bucket name) choice).refused refl)
event_stages s (Apply n) choice = doing_keeps s (record { step = step.Apply n; choice = choice }) tt ∙ sym (nothing_staged_by (staged_in s) (Apply n) (outcome s (Apply n) choice).refused refl)
event_stages s (Tick ms) choice = doing_keeps s (plainly (step.Tick ms)) tt ∙ sym (nothing_staged_by (staged_in s) (Tick ms) (outcome s (Tick ms) choice).refused refl)
event_stages s (Skew n ms) choice = doing_keeps s (plainly (step.Skew n ms)) tt ∙ sym (nothing_staged_by (staged_in s) (Skew n ms) (outcome s (Skew n ms) choice).refused refl)
event_stages s (Put n bucket key size fill) choice = begins_keeps s n (order.Put bucket key (object_bytes size fill) []) ∙ sym (nothing_staged_by (staged_in s) (Put n bucket key size fill) (outcome s (Put n bucket key size fill) choice).refused refl)
event_stages s (Get n bucket key) choice = begins_keeps s n (order.Get bucket key) ∙ sym (nothing_staged_by (staged_in s) (Get n bucket key) (outcome s (Get n bucket key) choice).refused refl)
event_stages s (Head n bucket key) choice = begins_keeps s n (order.Head bucket key) ∙ sym (nothing_staged_by (staged_in s) (Head n bucket key) (outcome s (Head n bucket key) choice).refused refl)
event_stages s (Delete n bucket key) choice = begins_keeps s n (order.Delete bucket key) ∙ sym (nothing_staged_by (staged_in s) (Delete n bucket key) (outcome s (Delete n bucket key) choice).refused refl)
event_stages s (Copy n from_bucket from_key bucket key) choice = begins_keeps s n (order.Copy from_bucket from_key bucket key None) ∙ sym (nothing_staged_by (staged_in s) (Copy n from_bucket from_key bucket key) (outcome s (Copy n from_bucket from_key bucket key) choice).refused refl)
event_stages s (Keys n bucket prefix) choice = begins_keeps s n (order.List bucket prefix) ∙ sym (nothing_staged_by (staged_in s) (Keys n bucket prefix) (outcome s (Keys n bucket prefix) choice).refused refl)
event_stages s (Deliver m) choice = delivers_keeps s m ∙ sym (nothing_staged_by (staged_in s) (Deliver m) (outcome s (Deliver m) choice).refused refl)
event_stages s (Lose m) choice = doing_keeps s (plainly (step.Lose m)) tt ∙ sym (nothing_staged_by (staged_in s) (Lose m) (outcome s (Lose m) choice).refused refl)
event_stages s (Drain n) choice = drains_keep n s ∙ sym (nothing_staged_by (staged_in s) (Drain n) (outcome s (Drain n) choice).refused refl)
event_stages s (Expire q) choice = doing_keeps s (plainly (step.Expire q)) tt ∙ sym (nothing_staged_by (staged_in s) (Expire q) (outcome s (Expire q) choice).refused refl)
event_stages s (Restart n) choice = doing_keeps s (plainly (step.Restart n)) tt ∙ sym (nothing_staged_by (staged_in s) (Restart n) (outcome s (Restart n) choice).refused refl)
event_stages s (Gossip from to) choice = doing_keeps s (plainly (step.Gossip from to)) tt ∙ sym (nothing_staged_by (staged_in s) (Gossip from to) (outcome s (Gossip from to) choice).refused refl)
event_stages s (Ack n) choice = doing_keeps s (plainly (step.Ack n)) tt ∙ sym (nothing_staged_by (staged_in s) (Ack n) (outcome s (Ack n) choice).refused refl)
event_stages s (Sync n) choice = doing_keeps s (plainly (step.Sync n)) tt ∙ sym (nothing_staged_by (staged_in s) (Sync n) (outcome s (Sync n) choice).refused refl)
event_stages s (SyncAck n) choice = doing_keeps s (plainly (step.SyncAck n)) tt ∙ sym (nothing_staged_by (staged_in s) (SyncAck n) (outcome s (SyncAck n) choice).refused refl)
event_stages s (Clean n) choice = doing_keeps s (plainly (step.Clean n)) tt ∙ sym (nothing_staged_by (staged_in s) (Clean n) (outcome s (Clean n) choice).refused refl)
event_stages s (Work n) choice = doing_keeps s (plainly (step.Work n)) tt ∙ sym (nothing_staged_by (staged_in s) (Work n) (outcome s (Work n) choice).refused refl)
event_stages s (Repair n) choice = doing_keeps s (plainly (step.Repair n)) tt ∙ sym (nothing_staged_by (staged_in s) (Repair n) (outcome s (Repair n) choice).refused refl)
event_stages s (Collect n) choice = doing_keeps s (plainly (step.Collect n)) tt ∙ sym (nothing_staged_by (staged_in s) (Collect n) (outcome s (Collect n) choice).refused refl)
