-- Each event of a schedule can be given something lawful.
use Rattle.std.proofs.Common.{ℕ, zero, suc, Bool, true, false, if◌then◌else◌, Option, Some, None, List, [], ◌∷◌, length, refl}
use Rattle.crdt_rows.specs.declared.any_row.AnyRow.{AnyRow}
use Rattle.crdt_rows.specs.AnyRow.{any_join}
use Rattle.object_schema.specs.Schema.{words}
use Rattle.wire_messages.specs.declared.phase.PhaseEnd.{PhaseEnd}
use Rattle.cluster_machine.specs.declared.step.Step.TheVariants as step
use Rattle.cluster_machine.specs.declared.step.Refusal.TheVariants.{VersionLimit, NotMember, NoSuchBucket}
use Rattle.cluster_machine.specs.Node.{Ended}
use Rattle.cluster_machine.specs.Layouts.{layouts}
use Rattle.cluster_machine.specs.World.{clock, is_member_at, numbered, undelivered}
use Rattle.cluster_machine.specs.Step.{none_given}
use Rattle.cluster_machine.specs.Choices.{Decision}
use Rattle.flow_model.specs.declared.order.Order.{Order}
use Rattle.flow_model.specs.declared.order.Order.TheVariants as order
use Rattle.flow_model.specs.declared.flow.Flow.{Flow}
use Rattle.flow_model.specs.declared.flow.FlowStep.{FlowStep}
use Rattle.flow_model.specs.declared.flow.FlowStep.TheVariants.{More, Need, Wait, End}
use Rattle.flow_model.specs.Flow.{started}
use Rattle.flow_model.specs.Next.{next}
use Rattle.store_model.specs.declared.event.Event.{Event}
use Rattle.store_model.specs.declared.event.Event.TheVariants.{Trio, Block, Bucket, Role, Redundancy, Apply, Tick, Skew, Put, Get, Head, Delete, Copy, List as Keys, Deliver, Lose, Drain, Expire, Restart, Gossip, Ack, Sync, SyncAck, Clean, Work, Repair, Collect}
use Rattle.store_model.specs.Orders.{buckets_of}
use Rattle.store_model.specs.Run.{State, Asked, Draw, Outcome, Moving, plainly, doing, silent, refusal, are_buckets, phases, opened, begins, draws_of, takes, follows, follow, goes_on, effect, delivers, then_drains, drains, start}
use Rattle.store_model.specs.Acts.{moves, plain, IsLawfulAct}
use Rattle.store_model.specs.Events.{Turn, object_bytes, act_of, outcome, after}
use Rattle.store_model.specs.Turns.{IsLawful}
use Rattle.s3_world.specs.Stands.{IsMeantEvent}
use Rattle.layout_command.proofs.Staged.{AreStaged, IsInRange, in_range, step_fine, apply_lawful}

-- what is staged is in its ranges
pub record IsFine (s : State) : Type 0 where
  pub staged : AreStaged s.world.roles s.world.redundancy

pub start_fine : IsFine start
start_fine = record { staged = record { ascend = refl; numbered = refl; wanted_in = tt } }

doing_fine : (s : State) (m : Moving) → IsInRange m.step → IsFine s → IsFine (doing s m)
doing_fine s m meant h = record { staged = step_fine any_join words s.world h.staged m.step m.choice meant }

-- what holds of two outcomes holds of one of them
one_of : (b : Bool) (x y : Outcome) → IsFine x.state → IsFine y.state → IsFine (if b then x else y).state
one_of true x y h k = h
one_of false x y h k = k

module _ (s : State) (h : IsFine s) where
  opened_fine : (n : ℕ) (order : Order) → IsFine (opened s n order).state
  opened_fine n order =
      let q = suc (length s.world.requests) in
      let opens = plainly (step.Open n) in
      record { staged = (doing_fine (doing s opens) (phases q (started order q s.block).1) tt (doing_fine s opens tt h)).staged }

  begins_fine : (n : ℕ) (order : Order) → IsFine (begins s n order).state
  begins_fine n order =
      let found = are_buckets s.buckets (buckets_of order) in
      one_of (is_member_at layouts s.world n) (if found then opened s n order else refusal s NoSuchBucket) (refusal s NotMember)
      (one_of found (opened s n order) (refusal s NoSuchBucket) (opened_fine n order) h) h

  takes_fine : (q : ℕ) (asked : Asked) (draws : List Draw) (f : FlowStep) → IsFine (takes s q asked draws f).state
  takes_fine q asked draws (More flow phase) = record { staged = (doing_fine s (phases q phase) tt h).staged }
  takes_fine q asked draws (Need flow wanted) = record { staged = h.staged }
  takes_fine q asked draws (Wait flow) = record { staged = h.staged }
  takes_fine q asked draws (End end) = record { staged = (doing_fine s (plainly (step.Close q)) tt h).staged }

module _ (s : State) (h : IsFine s) where
  follows_fine : (q : ℕ) (asked : Asked) (end : PhaseEnd AnyRow) (flow : Option Flow) → IsFine (follows s q asked end flow).state
  follows_fine q asked end None = h
  follows_fine q asked end (Some flow) =
      let now = clock s.world asked.node in
      takes_fine (record s { saw = record { request = q; end = end } ∷ s.saw }) (record { staged = h.staged }) q asked (draws_of s q flow.block flow.stage end now) (next flow end now)

  follow_fine : (q : ℕ) (asked : Option Asked) (end : PhaseEnd AnyRow) → IsFine (follow s q asked end).state
  follow_fine q None end = h
  follow_fine q (Some asked) end = follows_fine q asked end asked.flow

  goes_on_fine : (es : List (Ended AnyRow)) → IsFine (goes_on s es).state
  goes_on_fine [] = h
  goes_on_fine (e ∷ es) = follow_fine e.request (numbered s.asked e.request) e.how

delivers_fine : (s : State) (m : ℕ) → IsFine s → IsFine (delivers s m).state
delivers_fine s m h =
    let d = plainly (step.Deliver m) in
    goes_on_fine (doing s d) (doing_fine s d tt h) (effect s d).ends

drains_fine : (n : ℕ) (s : State) → IsFine s → IsFine (drains n s).state
drains_fine zero s h = h
drains_fine (suc n) s h =
    elim (undelivered s.world) as (λ o. IsFine (elim o as (λ o. Outcome) [ None ↦ silent s | Some m ↦ let d = delivers s m in then_drains d (drains n d.state) ]).state) [
      | None ↦ h
      | Some m ↦ drains_fine n (delivers s m).state (delivers_fine s m h)
    ]

moves_fine : (s : State) (m : Moving) → IsLawfulAct s (moves m) → IsFine s → IsFine (plain s m).state
moves_fine s m lawful h = record { staged = (doing_fine s m (in_range m.step lawful.1) h).staged }

event_fine : (s : State) (e : Event) (choice : Decision) → IsLawfulAct s (act_of e choice) → IsFine s → IsFine (outcome s e choice).state
event_fine s (Block size) choice lawful h = record { staged = h.staged }
event_fine s (Bucket name) choice lawful h = record { staged = h.staged }
event_fine s (Put n bucket key size fill) choice lawful h = begins_fine s h n (order.Put bucket key (object_bytes size fill) [])
event_fine s (Get n bucket key) choice lawful h = begins_fine s h n (order.Get bucket key)
event_fine s (Head n bucket key) choice lawful h = begins_fine s h n (order.Head bucket key)
event_fine s (Delete n bucket key) choice lawful h = begins_fine s h n (order.Delete bucket key)
event_fine s (Copy n from_bucket from_key bucket key) choice lawful h = begins_fine s h n (order.Copy from_bucket from_key bucket key None)
event_fine s (Keys n bucket prefix) choice lawful h = begins_fine s h n (order.List bucket prefix)
event_fine s (Deliver m) choice lawful h = delivers_fine s m h
event_fine s (Drain n) choice lawful h = drains_fine n s h
event_fine s Trio choice lawful h = moves_fine s (plainly step.Trio) lawful h
event_fine s (Role n role) choice lawful h = moves_fine s (plainly (step.Role n role)) lawful h
event_fine s (Redundancy wanted) choice lawful h = moves_fine s (plainly (step.Redundancy wanted)) lawful h
event_fine s (Apply n) choice lawful h = moves_fine s (record { step = step.Apply n; choice = choice }) lawful h
event_fine s (Tick ms) choice lawful h = moves_fine s (plainly (step.Tick ms)) lawful h
event_fine s (Skew n ms) choice lawful h = moves_fine s (plainly (step.Skew n ms)) lawful h
event_fine s (Lose m) choice lawful h = moves_fine s (plainly (step.Lose m)) lawful h
event_fine s (Expire q) choice lawful h = moves_fine s (plainly (step.Expire q)) lawful h
event_fine s (Restart n) choice lawful h = moves_fine s (plainly (step.Restart n)) lawful h
event_fine s (Gossip from to) choice lawful h = moves_fine s (plainly (step.Gossip from to)) lawful h
event_fine s (Ack n) choice lawful h = moves_fine s (plainly (step.Ack n)) lawful h
event_fine s (Sync n) choice lawful h = moves_fine s (plainly (step.Sync n)) lawful h
event_fine s (SyncAck n) choice lawful h = moves_fine s (plainly (step.SyncAck n)) lawful h
event_fine s (Clean n) choice lawful h = moves_fine s (plainly (step.Clean n)) lawful h
event_fine s (Work n) choice lawful h = moves_fine s (plainly (step.Work n)) lawful h
event_fine s (Repair n) choice lawful h = moves_fine s (plainly (step.Repair n)) lawful h
event_fine s (Collect n) choice lawful h = moves_fine s (plainly (step.Collect n)) lawful h

pub after_fine : (s : State) (t : Turn) → IsLawful s t → IsFine s → IsFine (after s t)
after_fine s t lawful h = event_fine s t.numbered.event t.choice lawful h

-- an event may be given something
pub event_lawful : (s : State) (e : Event) → IsMeantEvent e → IsFine s → (choice : Decision) × IsLawfulAct s (act_of e choice)
event_lawful s (Apply n) meant h = let given = apply_lawful s.world n h.staged in (given.0, (tt, tt, given.1))
event_lawful s Trio meant h = (none_given VersionLimit, (tt, tt, tt))
event_lawful s (Block size) meant h = (none_given VersionLimit, tt)
event_lawful s (Bucket name) meant h = (none_given VersionLimit, tt)
event_lawful s (Role n role) meant h = (none_given VersionLimit, (tt, meant, tt))
event_lawful s (Redundancy wanted) meant h = (none_given VersionLimit, (tt, meant, tt))
event_lawful s (Tick ms) meant h = (none_given VersionLimit, (tt, tt, tt))
event_lawful s (Skew n ms) meant h = (none_given VersionLimit, (tt, tt, tt))
event_lawful s (Put n bucket key size fill) meant h = (none_given VersionLimit, meant)
event_lawful s (Get n bucket key) meant h = (none_given VersionLimit, tt)
event_lawful s (Head n bucket key) meant h = (none_given VersionLimit, tt)
event_lawful s (Delete n bucket key) meant h = (none_given VersionLimit, meant)
event_lawful s (Copy n from_bucket from_key bucket key) meant h = (none_given VersionLimit, meant)
event_lawful s (Keys n bucket prefix) meant h = (none_given VersionLimit, tt)
event_lawful s (Deliver m) meant h = (none_given VersionLimit, tt)
event_lawful s (Lose m) meant h = (none_given VersionLimit, (tt, tt, tt))
event_lawful s (Drain n) meant h = (none_given VersionLimit, tt)
event_lawful s (Expire q) meant h = (none_given VersionLimit, (tt, tt, tt))
event_lawful s (Restart n) meant h = (none_given VersionLimit, (tt, tt, tt))
event_lawful s (Gossip from to) meant h = (none_given VersionLimit, (tt, tt, tt))
event_lawful s (Ack n) meant h = (none_given VersionLimit, (tt, tt, tt))
event_lawful s (Sync n) meant h = (none_given VersionLimit, (tt, tt, tt))
event_lawful s (SyncAck n) meant h = (none_given VersionLimit, (tt, tt, tt))
event_lawful s (Clean n) meant h = (none_given VersionLimit, (tt, tt, tt))
event_lawful s (Work n) meant h = (none_given VersionLimit, (tt, tt, tt))
event_lawful s (Repair n) meant h = (none_given VersionLimit, (tt, tt, tt))
event_lawful s (Collect n) meant h = (none_given VersionLimit, (tt, tt, tt))
