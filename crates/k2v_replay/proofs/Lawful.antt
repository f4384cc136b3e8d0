-- Each event of a schedule can be given something lawful.
use Rattle.std.proofs.Common.{ℕ, zero, suc, length, Bool, true, false, if◌then◌else◌, cond, Option, Some, None, List, [], ◌∷◌, refl, arith}
use Rattle.std.specs.Option.{unwrap_or}
use Rattle.layout_roles.specs.declared.redundancy.Redundancy.{Redundancy}
use Rattle.layout_roles.specs.declared.redundancy.Redundancy.TheVariants.{AtLeast, Maximum}
use Rattle.wire_messages.specs.declared.phase.PhaseEnd.{PhaseEnd}
use Rattle.wire_messages.specs.declared.phase.PhaseEnd.TheVariants.{Row, Kept, Window, Block}
use Rattle.wire_messages.specs.declared.phase.Phase.TheVariants.{Store}
use Rattle.cluster_machine.specs.declared.step.Step.TheVariants as step
use Rattle.cluster_machine.specs.declared.step.Refusal.TheVariants.{VersionLimit, NotMember, NoSuchBucket}
use Rattle.cluster_machine.specs.Node.{Ended}
use Rattle.cluster_machine.specs.Layouts.{layouts}
use Rattle.cluster_machine.specs.World.{is_member_at, numbered, undelivered}
use Rattle.cluster_machine.specs.Step.{none_given}
use Rattle.cluster_machine.specs.Choices.{Decision}
use Rattle.cluster_machine.specs.Worlds.{IsMeant}
use Rattle.store_model.specs.declared.event.Event.{Event}
use Rattle.store_model.specs.declared.event.Event.TheVariants as event
use Rattle.store_model.specs.Events.{object_bytes}
use Rattle.k2v_rows.specs.declared.value.K2vValue.{K2vValue}
use Rattle.k2v_rows.specs.declared.value.K2vValue.TheVariants.{Deleted, Value}
use Rattle.k2v_rows.specs.declared.k2v_row.K2vRow.{K2vRow}
use Rattle.k2v_rows.specs.Row.{row_join, can_put, after_put}
use Rattle.k2v_schema.specs.Schema.{words}
use Rattle.k2v_model.specs.declared.order.Ask.{Ask}
use Rattle.k2v_model.specs.declared.order.Ask.TheVariants.{Write, Read}
use Rattle.k2v_model.specs.declared.order.Order.{Order}
use Rattle.k2v_model.specs.declared.line.ItemLine.{ItemLine}
use Rattle.k2v_model.specs.declared.line.ItemRefusal.TheVariants.{Cluster, NoSuchToken}
use Rattle.k2v_model.specs.Orders.{key_of, empty_row, asks_for}
use Rattle.k2v_model.specs.Run.{Moving, ItemRequest, Stage, reading, storing, stored, shown, over, State, Outcome, start, silent, refusal, plainly, effect, doing, phases, begins_reading, unless_busy, is_token, busy_from, admits, is_bucket, begins, token_at, stores, finishes, writes, reads_on, follows, follow, goes_on, delivers, then_drains, drains}
use Rattle.k2v_model.specs.Acts.{moves, plain, IsLawfulAct}
use Rattle.k2v_text.specs.declared.event.ItemEvent.{ItemEvent}
use Rattle.k2v_text.specs.declared.event.ItemEvent.TheVariants.{Common, Put, Delete, Get}
use Rattle.k2v_text.specs.Events.{Turn, act_of, after}
use Rattle.k2v_text.specs.Grammar.{IsAllowed}
use Rattle.k2v_text.specs.Played.{outcome, IsLawful}
use Rattle.layout_command.proofs.Staged.{AreStaged, IsInRange, in_range, step_fine, apply_lawful}

-- what is staged is in its ranges
pub record IsFine (s : State) : Type 0 where
  pub staged : AreStaged s.world.roles s.world.redundancy

pub start_fine : IsFine start
start_fine = record { staged = record { ascend = refl; numbered = refl; wanted_in = tt } }

doing_fine : (s : State) (m : Moving) → IsInRange m.step → IsFine s → IsFine (doing s m)
doing_fine s m meant h = record { staged = step_fine row_join words s.world h.staged m.step m.choice meant }

-- what holds of two outcomes holds of one of them
one_of : (b : Bool) (x y : Outcome) → IsFine x.state → IsFine y.state → IsFine (if b then x else y).state
one_of true x y h k = h
one_of false x y h k = k

by_can : (b : Bool) (x y : Outcome) → IsFine x.state → IsFine y.state → IsFine (cond b x y).state
by_can true x y h k = h
by_can false x y h k = k

module _ (s : State) (h : IsFine s) where
  reading_fine : (n : ℕ) (order : Order) → IsFine (begins_reading s n order).state
  reading_fine n order =
      let q = suc (length s.world.requests) in
      let opens = plainly (step.Open n) in
      record { staged = (doing_fine (doing s opens) (phases q (asks_for order.item)) tt (doing_fine s opens tt h)).staged }

  unless_fine : (n : ℕ) (order : Order) (busy : Option ℕ) → IsFine (unless_busy s n order busy).state
  unless_fine n order None = reading_fine n order
  unless_fine n order (Some q) = h

  admits_fine : (n : ℕ) (order : Order) (ask : Ask) → IsFine (admits s n order ask).state
  admits_fine n order (Write value token) =
      let key = key_of order.item in
      let busy = busy_from 1 s.requests n key in
      one_of (is_token s.requests key token) (unless_busy s n order busy) (refusal s (NoSuchToken token)) (unless_fine n order busy) h
  admits_fine n order Read = reading_fine n order

  begins_fine : (n : ℕ) (order : Order) → IsFine (begins s n order).state
  begins_fine n order =
      let found = is_bucket s.buckets order.item.bucket in
      let inner = admits s n order order.ask in
      let unfound = refusal s (Cluster NoSuchBucket) in
      one_of (is_member_at layouts s.world n) (if found then inner else unfound) (refusal s (Cluster NotMember))
      (one_of found inner unfound (admits_fine n order order.ask) h) h

  stores_fine : (q : ℕ) (a : ItemRequest) (row : K2vRow) → IsFine (stores s q a row).state
  stores_fine q a row = record { staged = (doing_fine s (phases q (Store ((row, None) ∷ []))) tt h).staged }

  finishes_fine : (q : ℕ) (a : ItemRequest) (stage : Stage) (line : ItemLine) → IsFine (finishes s q a stage line).state
  finishes_fine q a stage line = record { staged = (doing_fine s (plainly (step.Close q)) tt h).staged }

  writes_fine : (q : ℕ) (a : ItemRequest) (value : K2vValue) (token : ℕ) (read : Option K2vRow) → IsFine (writes s q a value token read).state
  writes_fine q a value token read =
      let base = unwrap_or read (empty_row a.order.item) in
      let times = token_at (numbered s.requests token) in
      let row = after_put base a.node q value times in
      by_can (can_put base a.node q times) (stores s q a row) (silent s) (stores_fine q a row) h

  reads_on_fine : (q : ℕ) (a : ItemRequest) (read : Option K2vRow) (ask : Ask) → IsFine (reads_on s q a read ask).state
  reads_on_fine q a read (Write value token) = writes_fine q a value token read
  reads_on_fine q a read Read = record { staged = (doing_fine s (plainly (step.Close q)) tt h).staged }

  follows_fine : (q : ℕ) (a : ItemRequest) (end : PhaseEnd K2vRow) (stage : Stage) → IsFine (follows s q a end stage).state
  follows_fine q a (Row read) reading = reads_on_fine q a read a.order.ask
  follows_fine q a (Row read) (storing row) = h
  follows_fine q a (Row read) (stored row) = h
  follows_fine q a (Row read) (shown given begun) = h
  follows_fine q a (Row read) over = h
  follows_fine q a Kept reading = h
  follows_fine q a Kept (storing row) = record { staged = (doing_fine s (plainly (step.Close q)) tt h).staged }
  follows_fine q a Kept (stored row) = h
  follows_fine q a Kept (shown given begun) = h
  follows_fine q a Kept over = h
  follows_fine q a (Window rows more) reading = h
  follows_fine q a (Window rows more) (storing row) = h
  follows_fine q a (Window rows more) (stored row) = h
  follows_fine q a (Window rows more) (shown given begun) = h
  follows_fine q a (Window rows more) over = h
  follows_fine q a (Block bytes) reading = h
  follows_fine q a (Block bytes) (storing row) = h
  follows_fine q a (Block bytes) (stored row) = h
  follows_fine q a (Block bytes) (shown given begun) = h
  follows_fine q a (Block bytes) over = h

  follow_fine : (q : ℕ) (a : Option ItemRequest) (end : PhaseEnd K2vRow) → IsFine (follow s q a end).state
  follow_fine q None end = h
  follow_fine q (Some a) end = follows_fine q a end a.stage

  goes_on_fine : (es : List (Ended K2vRow)) → IsFine (goes_on s es).state
  goes_on_fine [] = h
  goes_on_fine (e ∷ es) = follow_fine e.request (numbered s.requests e.request) e.how

delivers_fine : (s : State) (m : ℕ) → IsFine s → IsFine (delivers s m).state
delivers_fine s m h =
    let d = plainly (step.Deliver m) in
    goes_on_fine (doing s d) (doing_fine s d tt h) (effect s d).ends

drains_fine : (n : ℕ) (s : State) → IsFine s → IsFine (drains n s).state
drains_fine zero s h = h
drains_fine (suc n) s h =
    elim (undelivered s.world) as (λ o. IsFine (elim o as (λ o. Outcome) [ None ↦ silent s | Some m ↦ let d = delivers s m in then_drains d (drains n d.state) ]).state) [
      | None ↦ h
      | Some m ↦ drains_fine n (delivers s m).state (delivers_fine s m h)
    ]

moves_fine : (s : State) (m : Moving) → IsLawfulAct s (moves m) → IsFine s → IsFine (plain s m).state
moves_fine s m lawful h = record { staged = (doing_fine s m (in_range m.step lawful.1) h).staged }

common_fine : (s : State) (e : Event) (choice : Decision) → IsLawfulAct s (act_of (Common e) choice) → IsFine s → IsFine (outcome s (Common e) choice).state
common_fine s (event.Bucket name) choice lawful h = record { staged = h.staged }
common_fine s (event.Deliver m) choice lawful h = delivers_fine s m h
common_fine s (event.Drain n) choice lawful h = drains_fine n s h
common_fine s (event.Apply n) choice lawful h = moves_fine s (record { step = step.Apply n; choice = choice }) lawful h
common_fine s event.Trio choice lawful h = moves_fine s (plainly step.Trio) lawful h
common_fine s (event.Role n role) choice lawful h = moves_fine s (plainly (step.Role n role)) lawful h
common_fine s (event.Redundancy wanted) choice lawful h = moves_fine s (plainly (step.Redundancy wanted)) lawful h
common_fine s (event.Tick ms) choice lawful h = moves_fine s (plainly (step.Tick ms)) lawful h
common_fine s (event.Skew n ms) choice lawful h = moves_fine s (plainly (step.Skew n ms)) lawful h
common_fine s (event.Lose m) choice lawful h = moves_fine s (plainly (step.Lose m)) lawful h
common_fine s (event.Expire q) choice lawful h = moves_fine s (plainly (step.Expire q)) lawful h
common_fine s (event.Restart n) choice lawful h = moves_fine s (plainly (step.Restart n)) lawful h
common_fine s (event.Gossip from to) choice lawful h = moves_fine s (plainly (step.Gossip from to)) lawful h
common_fine s (event.Ack n) choice lawful h = moves_fine s (plainly (step.Ack n)) lawful h
common_fine s (event.Sync n) choice lawful h = moves_fine s (plainly (step.Sync n)) lawful h
common_fine s (event.SyncAck n) choice lawful h = moves_fine s (plainly (step.SyncAck n)) lawful h
common_fine s (event.Clean n) choice lawful h = moves_fine s (plainly (step.Clean n)) lawful h
common_fine s (event.Work n) choice lawful h = moves_fine s (plainly (step.Work n)) lawful h
common_fine s (event.Repair n) choice lawful h = moves_fine s (plainly (step.Repair n)) lawful h
common_fine s (event.Collect n) choice lawful h = moves_fine s (plainly (step.Collect n)) lawful h
common_fine s e choice lawful h = h

event_fine : (s : State) (e : ItemEvent) (choice : Decision) → IsLawfulAct s (act_of e choice) → IsFine s → IsFine (outcome s e choice).state
event_fine s (Common e) choice lawful h = common_fine s e choice lawful h
event_fine s (Put n item size fill token) choice lawful h = begins_fine s h n (record { item = item; ask = Write (Value (object_bytes size fill)) token })
event_fine s (Delete n item token) choice lawful h = begins_fine s h n (record { item = item; ask = Write Deleted token })
event_fine s (Get n item) choice lawful h = begins_fine s h n (record { item = item; ask = Read })

pub after_fine : (s : State) (t : Turn) → IsLawful s t → IsFine s → IsFine (after s t)
after_fine s t lawful h = event_fine s t.numbered.event t.choice lawful h

wanted_meant : (wanted : Redundancy) → IsAllowed (Common (event.Redundancy wanted)) → IsMeant {R = K2vRow} (step.Redundancy wanted)
wanted_meant (AtLeast r) h = h.0
wanted_meant Maximum h = tt

-- an event may be given something
common_lawful : (s : State) (e : Event) → IsAllowed (Common e) → IsFine s → (choice : Decision) × IsLawfulAct s (act_of (Common e) choice)
common_lawful s (event.Apply n) allowed h = let given = apply_lawful s.world n h.staged in (given.0, (tt, tt, given.1))
common_lawful s event.Trio allowed h = (none_given VersionLimit, (tt, tt, tt))
common_lawful s (event.Role n role) allowed h = (none_given VersionLimit, (tt, (allowed.0.0.0, omega arith), tt))
common_lawful s (event.Redundancy wanted) allowed h = (none_given VersionLimit, (tt, wanted_meant wanted allowed, tt))
common_lawful s (event.Tick ms) allowed h = (none_given VersionLimit, (tt, tt, tt))
common_lawful s (event.Skew n ms) allowed h = (none_given VersionLimit, (tt, tt, tt))
common_lawful s (event.Lose m) allowed h = (none_given VersionLimit, (tt, tt, tt))
common_lawful s (event.Expire q) allowed h = (none_given VersionLimit, (tt, tt, tt))
common_lawful s (event.Restart n) allowed h = (none_given VersionLimit, (tt, tt, tt))
common_lawful s (event.Gossip from to) allowed h = (none_given VersionLimit, (tt, tt, tt))
common_lawful s (event.Ack n) allowed h = (none_given VersionLimit, (tt, tt, tt))
common_lawful s (event.Sync n) allowed h = (none_given VersionLimit, (tt, tt, tt))
common_lawful s (event.SyncAck n) allowed h = (none_given VersionLimit, (tt, tt, tt))
common_lawful s (event.Clean n) allowed h = (none_given VersionLimit, (tt, tt, tt))
common_lawful s (event.Work n) allowed h = (none_given VersionLimit, (tt, tt, tt))
common_lawful s (event.Repair n) allowed h = (none_given VersionLimit, (tt, tt, tt))
common_lawful s (event.Collect n) allowed h = (none_given VersionLimit, (tt, tt, tt))
common_lawful s e allowed h = (none_given VersionLimit, tt)

pub event_lawful : (s : State) (e : ItemEvent) → IsAllowed e → IsFine s → (choice : Decision) × IsLawfulAct s (act_of e choice)
event_lawful s (Common e) allowed h = common_lawful s e allowed h
event_lawful s (Put n item size fill token) allowed h = (none_given VersionLimit, tt)
event_lawful s (Delete n item token) allowed h = (none_given VersionLimit, tt)
event_lawful s (Get n item) allowed h = (none_given VersionLimit, tt)
