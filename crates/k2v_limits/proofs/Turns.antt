-- Turns of a schedule over items within the limits: after each of their steps there is room.
use Rattle.std.specs.Prelude.{◌≡◌, ◌≤◌, ◌<◌, ◌+◌, ◌*◌, ℕ, zero, suc, false, IsTrue, List, [], ◌∷◌, ◌++◌, Option, Some, None, length, refl, ⊤}
use Rattle.std.specs.List.{AllByRecursion}
use Rattle.std.proofs.Common.{sym, subst, arith}
use Rattle.layout_roles.specs.declared.layout.Layout.{Layout}
use Rattle.table_model.specs.Rows.{rows}
use Rattle.table_model.specs.Top.{any_unspelled}
use Rattle.cluster_machine.specs.declared.step.Step.TheVariants as step
use Rattle.cluster_machine.specs.declared.step.Refusal.TheVariants.{VersionLimit}
use Rattle.cluster_machine.specs.Choices.{Decision}
use Rattle.cluster_machine.specs.Step.{none_given}
use Rattle.cluster_machine.specs.World.{empty, undelivered}
use Rattle.cluster_machine.specs.Worlds.{IsSound, HaveRoom}
use Rattle.machine_origins.proofs.Good.{IsGood, rows_good}
use Rattle.store_model.specs.declared.event.Event.{Event}
use Rattle.store_model.specs.declared.event.Event.TheVariants as event
use Rattle.store_model.specs.Events.{object_bytes}
use Rattle.machine_limits.specs.Steps.{StepFits, HasPlace}
use Rattle.machine_limits.proofs.Contents.{rules_of}
use Rattle.machine_limits.proofs.Moves.{StaysSound, moves}
use Rattle.machine_limits.proofs.Nodes.{mail_limit}
use Rattle.machine_limits.proofs.Posts.{spelled_so}
use Rattle.machine_limits.proofs.Runs.{RunFits, size_of, far, later_run, advance, start_run, message_place, own_place, message_size, waiting}
use Rattle.machine_limits.proofs.Spending.{Mailed, Spends}
use Rattle.machine_limits.proofs.Worlds.{WorldFits}
use Rattle.machine_limits.proofs.Stepwise.{AreTaken, none_taken, more_taken}
use Rattle.k2v_rows.specs.declared.value.K2vValue.TheVariants.{Deleted, Value}
use Rattle.k2v_rows.specs.declared.k2v_row.K2vRow.{K2vRow}
use Rattle.k2v_rows.specs.Row.{row_join}
use Rattle.k2v_schema.specs.Schema.{words}
use Rattle.k2v_model.specs.declared.order.Item.{Item}
use Rattle.k2v_model.specs.declared.order.Ask.TheVariants.{Write, Read}
use Rattle.k2v_model.specs.declared.order.Order.{Order}
use Rattle.k2v_model.specs.Orders.{key_of}
use Rattle.k2v_model.specs.Run.{World, ItemRequest, Moving, State, start, Outcome, silent, plainly, begins, delivers, then_drains, drains}
use Rattle.k2v_model.specs.Acts.{moves as act_moves, plain, IsLawfulAct}
use Rattle.k2v_text.specs.declared.event.ItemEvent.{ItemEvent}
use Rattle.k2v_text.specs.declared.event.ItemEvent.TheVariants.{Common, Put, Delete, Get}
use Rattle.k2v_text.specs.Grammar.{item_range, IsAllowed}
use Rattle.k2v_text.specs.Events.{Turn, act_of, after, run}
use Rattle.k2v_text.specs.Played.{Step, outcome, deliveries, steps_of, GoesOn, IsLawful, AreLawful, AllGoOn}
use Rattle.text_model.specs.Grammar.{IsIn}
use Rattle.limit_laws.proofs.Words.{hash_of, key_fits, object_fits}
use Rattle.k2v_limits.specs.Limits.{AreAllowed}
use Rattle.k2v_limits.proofs.Rows.{KeyFits, RowFits}
use Rattle.k2v_limits.proofs.Weights.{weight, rows_bounded}
use Rattle.k2v_limits.proofs.Requests.{AreRequests, StateFits, state_wider, OutFits, nothing_spent, OrderFits, delivers_out, begins_out, plain_out}

-- a state that a run within the limits came to in so many events
pub record ReplayFits (e : ℕ) (s : State) : Type 0 where
  pub t : ℕ
  pub run : RunFits row_join words RowFits weight e t s.world
  pub requests : AreRequests s.requests
  pub few : length s.requests ≤ t

later_replay : (e u : ℕ) (s : State) → e ≤ u → ReplayFits e s → ReplayFits u s
later_replay e u s h r = record { t = r.t; run = later_run e u r.t s.world h r.run; requests = r.requests; few = r.few }

-- what is known of it
state_of : (e : ℕ) (s : State) (r : ReplayFits e s) → StateFits r.t r.run.k 268435456 s
state_of e s r = record { world = r.run.world; requests = r.requests; few = r.few; marks = r.run.marks }

-- ---- words of events

item_fits : (n : ℕ) (item : Item) → IsIn (item_range n item) → KeyFits (key_of item)
item_fits n item h =
    let pk = key_fits item.pk h.1.1.0 in
    let sk = key_fits item.sk h.1.1.1 in
    (hash_of item.bucket, pk.0, pk.1, sk.0, sk.1)

node_few : (n : ℕ) (item : Item) → IsIn (item_range n item) → n ≤ 255
node_few n item h = let low = h.0.1 in omega (arith, low)

never : {A : Type 0} → IsTrue false → A
never h = absurd cc

-- after a step there is room
abbrev pub HasRoom : Step → Type 0
HasRoom x = HaveRoom row_join words x.from.world x.outcome.moves

-- and where the replay goes on, what is known goes on
record Stepped (u : ℕ) (s : State) (o : Outcome) : Type 0 where
  room : HaveRoom row_join words s.world o.moves
  on : GoesOn (record { from = s; outcome = o }) → ReplayFits u o.state

module _ (stays : StaysSound row_join words) where
  stepped : (e u : ℕ) (s : State) (o : Outcome) (r : ReplayFits e s) (m b : ℕ) (c : (Mailed K2vRow → ℕ) → ℕ) → OutFits (suc (suc (suc r.t))) m b c s o → suc (suc (suc r.t)) ≤ 3 * (u + (r.run.count + c (λ (x : Mailed K2vRow). 1))) → m ≤ u * 268435456 + (r.run.size + c (size_of words)) → Stepped u s o
  stepped e u s o r m b c f steps bytes =
      let x = f.state in
      let few = f.few in
      record {
        room = f.room;
        on = λ g. record { t = f.steps; run = advance e u r.t s.world o.state.world r.run f.steps m b c x.world x.marks f.spends (omega (arith, few, steps)) bytes g.bytes g.sent g.within; requests = x.requests; few = x.few };
      }

  -- ---- a drain's deliveries

  delivery_step : (e : ℕ) (s : State) (i : ℕ) → e ≤ 100000 → ReplayFits e s → undelivered s.world ≡ Some i → Stepped e s (delivers s i)
  delivery_step e s i low r is =
      let least = waiting {join = row_join} {s = words} s.world i (none_given VersionLimit) r.run.marks is in
      let x = least.message in
      let bounds = far e r.t s.world r.run in
      let count = bounds.count in
      let size = bounds.size in
      let steps = r.run.steps in
      let bytes = r.run.bytes in
      let c : (Mailed K2vRow → ℕ) → ℕ = λ f. f x in
      let m = r.run.k + size_of words x in
      let within = message_size e r.t s.world i x r.run least.is_there in
      let out = delivers_out stays r.t r.run.k m 268435456 s i c (omega arith) (omega (arith, low, bytes, size, within)) (omega arith) (omega (arith, low, steps, count)) (state_of e s r) (own_place words s.world i r.run.k x least.is_there) least.spends in
      stepped e e s (delivers s i) r m (268435456 + (mail_limit + mail_limit)) c out (omega (arith, steps)) (omega (arith, bytes))

  -- ---- events that are one step

  abbrev IsSingle : ItemEvent → Type 0
  IsSingle (Common (event.Drain n)) = ⊥
  IsSingle e = ⊤

  module _ (e : ℕ) (s : State) (low : e < 100000) (r : ReplayFits e s) where
    abbrev m : ℕ
    m = r.run.k + 268435456

    abbrev b : ℕ
    b = 268435456 + (mail_limit + mail_limit)

    abbrev Out : Outcome → Type 0
    Out o = OutFits (suc (suc (suc r.t))) m b nothing_spent s o

    record Room : Type 0 where
      steps : suc (suc (suc r.t)) ≤ 16777216
      top : m ≤ 27000000000000

    room : Room
    room = let bounds = far e r.t s.world r.run in let count = bounds.count in let size = bounds.size in let steps = r.run.steps in let bytes = r.run.bytes in record { steps = omega (arith, low, count, steps); top = omega (arith, low, size, bytes) }

    wider : (k c u : ℕ) (o : Outcome) → k ≤ m → c ≤ b → u ≤ suc (suc (suc r.t)) → OutFits u k c nothing_spent s o → Out o
    wider k c u o h g less f =
        let few = f.few in
        let steps = room.steps in
        record {
          room = f.room;
          steps = f.steps;
          few = omega (arith, few, less);
          state = state_wider f.steps f.steps k m c b o.state (omega arith) (omega (arith, few, less, steps)) h g f.state;
          spends = f.spends;
        }

    moved : (mv : Moving) → StepFits RowFits weight mv.step → HasPlace words r.run.k r.run.k s.world mv.step → IsLawfulAct s (act_moves mv) → Out (plain s mv)
    moved mv meant place lawful =
        let steps = room.steps in
        let top = room.top in
        wider r.run.k (268435456 + mail_limit) (suc r.t) (plain s mv) (omega arith) (omega arith) (omega arith)
        (plain_out stays r.t r.run.k r.run.k 268435456 s mv (omega arith) (omega (arith, top)) (omega arith) (omega (arith, steps)) (state_of e s r) meant place lawful.2)

    asked : (n : ℕ) (order : Order) → OrderFits stays n order → Out (begins s n order)
    asked n order f =
        let steps = room.steps in
        let top = room.top in
        wider r.run.k b (suc (suc (suc r.t))) (begins s n order) (omega arith) (omega arith) (omega arith) (begins_out stays r.t r.run.k 268435456 s n order (omega (arith, top)) (omega arith) steps (state_of e s r) f)

    rests : (new : State) → new.world ≡ s.world → new.requests ≡ s.requests → Out (silent new)
    rests new world requests =
        let steps = room.steps in
        let x = state_of e s r in
        record {
          room = tt;
          steps = r.t;
          few = omega arith;
          state = state_wider r.t r.t r.run.k m 268435456 b new (omega arith) (omega (arith, steps)) (omega arith) (omega arith) (record {
            world = subst (WorldFits row_join words RowFits weight r.t r.run.k 268435456) (sym world) x.world;
            requests = subst AreRequests (sym requests) x.requests;
            few = subst (λ (l : List ItemRequest). length l ≤ r.t) (sym requests) x.few;
            marks = subst (λ (w : World). length w.messages ≡ length w.marks) (sym world) x.marks;
          });
          spends = λ f. subst (λ (w : World). Spends f s.world w 0) (sym world) (omega arith);
        }

    delivered : (i : ℕ) → Out (delivers s i)
    delivered i =
        let steps = room.steps in
        let top = room.top in
        let place = message_place e r.t s.world i m r.run (omega arith) in
        delivers_out stays r.t r.run.k m 268435456 s i nothing_spent (omega arith) top (omega arith) steps (state_of e s r) place
        (λ f. (moves rows_bounded stays r.t r.run.k m 268435456 s.world (plainly (step.Deliver i)) (omega arith) top (omega arith) (omega (arith, steps)) r.run.world r.run.marks tt place tt).spends f)

    common_out : (x : Event) (choice : Decision) → IsSingle (Common x) → IsAllowed (Common x) → IsLawfulAct s (act_of (Common x) choice) → Out (outcome s (Common x) choice)
    common_out event.Trio choice single allowed lawful = moved (plainly step.Trio) tt tt lawful
    common_out (event.Block size) choice single allowed lawful = never allowed.1
    common_out (event.Bucket name) choice single allowed lawful = rests (record s { buckets = s.buckets ++ name ∷ [] }) refl refl
    common_out (event.Role n role) choice single allowed lawful = moved (plainly (step.Role n role)) tt tt lawful
    common_out (event.Redundancy wanted) choice single allowed lawful = moved (plainly (step.Redundancy wanted)) tt tt lawful
    common_out (event.Apply n) choice single allowed lawful = moved (record { step = step.Apply n; choice = choice }) tt tt lawful
    common_out (event.Tick ms) choice single allowed lawful = moved (plainly (step.Tick ms)) allowed.0.1 tt lawful
    common_out (event.Skew n ms) choice single allowed lawful = moved (plainly (step.Skew n ms)) allowed.0.1.1 tt lawful
    common_out (event.Put n bucket key size fill) choice single allowed lawful = never allowed.1
    common_out (event.Get n bucket key) choice single allowed lawful = never allowed.1
    common_out (event.Head n bucket key) choice single allowed lawful = never allowed.1
    common_out (event.Delete n bucket key) choice single allowed lawful = never allowed.1
    common_out (event.Copy n from_bucket from_key bucket key) choice single allowed lawful = never allowed.1
    common_out (event.List n bucket prefix) choice single allowed lawful = never allowed.1
    common_out (event.Deliver i) choice single allowed lawful = delivered i
    common_out (event.Lose i) choice single allowed lawful = moved (plainly (step.Lose i)) tt tt lawful
    common_out (event.Drain n) choice single allowed lawful = absurd single
    common_out (event.Expire q) choice single allowed lawful = moved (plainly (step.Expire q)) tt tt lawful
    common_out (event.Restart n) choice single allowed lawful = moved (plainly (step.Restart n)) tt tt lawful
    common_out (event.Gossip from to) choice single allowed lawful = moved (plainly (step.Gossip from to)) tt tt lawful
    common_out (event.Ack n) choice single allowed lawful = moved (plainly (step.Ack n)) tt tt lawful
    common_out (event.Sync n) choice single allowed lawful = moved (plainly (step.Sync n)) tt tt lawful
    common_out (event.SyncAck n) choice single allowed lawful = moved (plainly (step.SyncAck n)) tt tt lawful
    common_out (event.Clean n) choice single allowed lawful = moved (plainly (step.Clean n)) tt tt lawful
    common_out (event.Work n) choice single allowed lawful = moved (plainly (step.Work n)) tt tt lawful
    common_out (event.Repair n) choice single allowed lawful = moved (plainly (step.Repair n)) tt tt lawful
    common_out (event.Collect n) choice single allowed lawful = moved (plainly (step.Collect n)) tt tt lawful

    event_out : (x : ItemEvent) (choice : Decision) → IsSingle x → IsAllowed x → IsLawfulAct s (act_of x choice) → Out (outcome s x choice)
    event_out (Common x) choice single allowed lawful = common_out x choice single allowed lawful
    event_out (Put n item size fill token) choice single allowed lawful =
        let range = allowed.0.0 in
        let body = object_fits size fill in
        let long = body.1 in
        let top = allowed.0.1.0.0.1 in
        asked n (record { item = item; ask = Write (Value (object_bytes size fill)) token }) (record { node = node_few n item range; key = item_fits n item range; ask = (body.0, omega (arith, long, top)) })
    event_out (Delete n item token) choice single allowed lawful =
        let range = allowed.0.0 in
        asked n (record { item = item; ask = Write Deleted token }) (record { node = node_few n item range; key = item_fits n item range; ask = tt })
    event_out (Get n item) choice single allowed lawful = asked n (record { item = item; ask = Read }) (record { node = node_few n item allowed.0; key = item_fits n item allowed.0; ask = tt })

    -- such an event
    event_step : (x : ItemEvent) (choice : Decision) → IsSingle x → IsAllowed x → IsLawfulAct s (act_of x choice) → Stepped (suc e) s (outcome s x choice)
    event_step x choice single allowed lawful =
        let steps = r.run.steps in
        let bytes = r.run.bytes in
        stepped e (suc e) s (outcome s x choice) r m b nothing_spent (event_out x choice single allowed lawful) (omega (arith, steps)) (omega (arith, bytes))

  -- ---- the steps of an event

  abbrev Taken : List Step → Type 0 → Type 0
  Taken xs After = AreTaken GoesOn HasRoom xs After

  drain_steps : (e n : ℕ) (s : State) → e ≤ 100000 → ReplayFits e s → Taken (deliveries n s) (ReplayFits e (drains n s).state)
  drain_steps e zero s low r = none_taken GoesOn HasRoom (ReplayFits e s) r
  drain_steps e (suc n) s low r = by_least (undelivered s.world) refl (λ i is. delivery_step e s i low r is) (λ i f. drain_steps e n (delivers s i).state low f)
    where
      by_least : (o : Option ℕ) → undelivered s.world ≡ o → ((i : ℕ) → undelivered s.world ≡ Some i → Stepped e s (delivers s i)) → ((i : ℕ) → ReplayFits e (delivers s i).state → Taken (deliveries n (delivers s i).state) (ReplayFits e (drains n (delivers s i).state).state)) →
          Taken (elim o as (λ o. List Step) [ None ↦ [] | Some i ↦ record { from = s; outcome = delivers s i } ∷ deliveries n (delivers s i).state ]) (ReplayFits e (elim o as (λ o. Outcome) [ None ↦ silent s | Some i ↦ then_drains (delivers s i) (drains n (delivers s i).state) ]).state)
      by_least None is one rest = none_taken GoesOn HasRoom (ReplayFits e s) r
      by_least (Some i) is one rest =
          let x = one i is in
          more_taken GoesOn HasRoom (record { from = s; outcome = delivers s i }) (deliveries n (delivers s i).state) (ReplayFits e (drains n (delivers s i).state).state) x.room (λ g. rest i (x.on g))

  single_steps : (u : ℕ) (s : State) (o : Outcome) → Stepped u s o → Taken (record { from = s; outcome = o } ∷ []) (ReplayFits u o.state)
  single_steps u s o x = more_taken GoesOn HasRoom (record { from = s; outcome = o }) [] (ReplayFits u o.state) x.room (λ g. none_taken GoesOn HasRoom (ReplayFits u o.state) (x.on g))

  abbrev TurnTaken : ℕ → State → ItemEvent → Decision → Type 0
  TurnTaken e s x choice = Taken (steps_of s x choice) (ReplayFits (suc e) (outcome s x choice).state)

  common_steps : (e : ℕ) (s : State) (x : Event) (choice : Decision) → e < 100000 → ReplayFits e s → IsAllowed (Common x) → IsLawfulAct s (act_of (Common x) choice) → TurnTaken e s (Common x) choice
  common_steps e s event.Trio choice low r allowed lawful = single_steps (suc e) s _ (event_step e s low r (Common event.Trio) choice tt allowed lawful)
  common_steps e s (event.Block size) choice low r allowed lawful = single_steps (suc e) s _ (event_step e s low r (Common (event.Block size)) choice tt allowed lawful)
  common_steps e s (event.Bucket name) choice low r allowed lawful = single_steps (suc e) s _ (event_step e s low r (Common (event.Bucket name)) choice tt allowed lawful)
  common_steps e s (event.Role n role) choice low r allowed lawful = single_steps (suc e) s _ (event_step e s low r (Common (event.Role n role)) choice tt allowed lawful)
  common_steps e s (event.Redundancy wanted) choice low r allowed lawful = single_steps (suc e) s _ (event_step e s low r (Common (event.Redundancy wanted)) choice tt allowed lawful)
  common_steps e s (event.Apply n) choice low r allowed lawful = single_steps (suc e) s _ (event_step e s low r (Common (event.Apply n)) choice tt allowed lawful)
  common_steps e s (event.Tick ms) choice low r allowed lawful = single_steps (suc e) s _ (event_step e s low r (Common (event.Tick ms)) choice tt allowed lawful)
  common_steps e s (event.Skew n ms) choice low r allowed lawful = single_steps (suc e) s _ (event_step e s low r (Common (event.Skew n ms)) choice tt allowed lawful)
  common_steps e s (event.Put n bucket key size fill) choice low r allowed lawful = single_steps (suc e) s _ (event_step e s low r (Common (event.Put n bucket key size fill)) choice tt allowed lawful)
  common_steps e s (event.Get n bucket key) choice low r allowed lawful = single_steps (suc e) s _ (event_step e s low r (Common (event.Get n bucket key)) choice tt allowed lawful)
  common_steps e s (event.Head n bucket key) choice low r allowed lawful = single_steps (suc e) s _ (event_step e s low r (Common (event.Head n bucket key)) choice tt allowed lawful)
  common_steps e s (event.Delete n bucket key) choice low r allowed lawful = single_steps (suc e) s _ (event_step e s low r (Common (event.Delete n bucket key)) choice tt allowed lawful)
  common_steps e s (event.Copy n from_bucket from_key bucket key) choice low r allowed lawful = single_steps (suc e) s _ (event_step e s low r (Common (event.Copy n from_bucket from_key bucket key)) choice tt allowed lawful)
  common_steps e s (event.List n bucket prefix) choice low r allowed lawful = single_steps (suc e) s _ (event_step e s low r (Common (event.List n bucket prefix)) choice tt allowed lawful)
  common_steps e s (event.Deliver i) choice low r allowed lawful = single_steps (suc e) s _ (event_step e s low r (Common (event.Deliver i)) choice tt allowed lawful)
  common_steps e s (event.Lose i) choice low r allowed lawful = single_steps (suc e) s _ (event_step e s low r (Common (event.Lose i)) choice tt allowed lawful)
  common_steps e s (event.Drain n) choice low r allowed lawful = drain_steps (suc e) n s (omega (arith, low)) (later_replay e (suc e) s (omega arith) r)
  common_steps e s (event.Expire q) choice low r allowed lawful = single_steps (suc e) s _ (event_step e s low r (Common (event.Expire q)) choice tt allowed lawful)
  common_steps e s (event.Restart n) choice low r allowed lawful = single_steps (suc e) s _ (event_step e s low r (Common (event.Restart n)) choice tt allowed lawful)
  common_steps e s (event.Gossip from to) choice low r allowed lawful = single_steps (suc e) s _ (event_step e s low r (Common (event.Gossip from to)) choice tt allowed lawful)
  common_steps e s (event.Ack n) choice low r allowed lawful = single_steps (suc e) s _ (event_step e s low r (Common (event.Ack n)) choice tt allowed lawful)
  common_steps e s (event.Sync n) choice low r allowed lawful = single_steps (suc e) s _ (event_step e s low r (Common (event.Sync n)) choice tt allowed lawful)
  common_steps e s (event.SyncAck n) choice low r allowed lawful = single_steps (suc e) s _ (event_step e s low r (Common (event.SyncAck n)) choice tt allowed lawful)
  common_steps e s (event.Clean n) choice low r allowed lawful = single_steps (suc e) s _ (event_step e s low r (Common (event.Clean n)) choice tt allowed lawful)
  common_steps e s (event.Work n) choice low r allowed lawful = single_steps (suc e) s _ (event_step e s low r (Common (event.Work n)) choice tt allowed lawful)
  common_steps e s (event.Repair n) choice low r allowed lawful = single_steps (suc e) s _ (event_step e s low r (Common (event.Repair n)) choice tt allowed lawful)
  common_steps e s (event.Collect n) choice low r allowed lawful = single_steps (suc e) s _ (event_step e s low r (Common (event.Collect n)) choice tt allowed lawful)

  turn_steps : (e : ℕ) (s : State) (x : ItemEvent) (choice : Decision) → e < 100000 → ReplayFits e s → IsAllowed x → IsLawfulAct s (act_of x choice) → TurnTaken e s x choice
  turn_steps e s (Common x) choice low r allowed lawful = common_steps e s x choice low r allowed lawful
  turn_steps e s (Put n item size fill token) choice low r allowed lawful = single_steps (suc e) s _ (event_step e s low r (Put n item size fill token) choice tt allowed lawful)
  turn_steps e s (Delete n item token) choice low r allowed lawful = single_steps (suc e) s _ (event_step e s low r (Delete n item token) choice tt allowed lawful)
  turn_steps e s (Get n item) choice low r allowed lawful = single_steps (suc e) s _ (event_step e s low r (Get n item) choice tt allowed lawful)

  -- ---- turns

  turns_run : (e : ℕ) (s : State) (ts : List Turn) → AreLawful s ts → AllGoOn s ts → AreAllowed ts → e + length ts ≤ 100000 → ReplayFits e s → ReplayFits (e + length ts) (run s ts)
  turns_run e s [] lawful on allowed few r = later_replay e (e + 0) s (omega arith) r
  turns_run e s (x ∷ ts) lawful on allowed few r =
      let here = (turn_steps e s x.numbered.event x.choice (omega (arith, few)) r allowed.0 lawful.0).on on.0 in
      let rest = turns_run (suc e) (after s x) ts lawful.1 on.1 allowed.1 (omega (arith, few)) here in
      later_replay (suc e + length ts) (e + suc (length ts)) (run (after s x) ts) (omega arith) rest

  -- the first state
  first_replay : IsSound (empty {R = K2vRow} {L = Layout}) → ReplayFits 0 start
  first_replay sound = record { t = 0; run = start_run sound; requests = tt; few = omega arith }

  module _ (sound : IsSound (empty {R = K2vRow} {L = Layout})) (before : List Turn) (lawful : AreLawful start before) (on : AllGoOn start before) (allowed : AreAllowed before) where
    replayed : length before ≤ 100000 → ReplayFits (length before) (run start before)
    replayed few = later_replay (0 + length before) (length before) (run start before) (omega arith) (turns_run 0 start before lawful on allowed (omega (arith, few)) (first_replay sound))

    -- after each step of a further event there is room
    pub has_room : (x : Turn) → length before < 100000 → IsAllowed x.numbered.event → IsLawful (run start before) x → (done : List Step) (last : Step) (later : List Step) → steps_of (run start before) x.numbered.event x.choice ≡ done ++ last ∷ later →
        AllByRecursion GoesOn done → HaveRoom row_join words last.from.world last.outcome.moves
    has_room x few fine ok = (turn_steps (length before) (run start before) x.numbered.event x.choice few (replayed (omega (arith, few))) fine ok).rooms

    -- and each row that a node has a spelling
    pub has_spellings : length before ≤ 100000 → (n : ℕ) → any_unspelled words (rows row_join words ((run start before).world.nodes n).accepted) ≡ false
    has_spellings few n =
        let r = replayed few in
        let x = (run start before).world.nodes n in
        by_rows (rows row_join words x.accepted) (rows_good (rules_of rows_bounded) x.accepted (r.run.world.rows.nodes n).accepted)
      where
        by_rows : (rs : List K2vRow) → AllByRecursion (IsGood words RowFits) rs → any_unspelled words rs ≡ false
        by_rows [] a = refl
        by_rows (r ∷ rs) a = rw (spelled_so rows_bounded r a.0.has) (by_rows rs a.1)
