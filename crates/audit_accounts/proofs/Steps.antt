-- Each event of a run within the limits tells numbers of the code, and leaves such a run.
use Rattle.std.proofs.Common.{◌≡◌, ◌≤◌, ◌<◌, ◌+◌, ◌*◌, ◌^◌, ℕ, zero, suc, Some, None, [], ◌∷◌, ◌++◌, length, refl, sym, subst, arith}
use Rattle.std.specs.Prelude.{⊤}
use Rattle.std.specs.List.{AllByRecursion}
use Rattle.layout_roles.specs.declared.layout.Layout.{Layout}
use Rattle.crdt_rows.specs.declared.any_row.AnyRow.{AnyRow}
use Rattle.crdt_rows.specs.AnyRow.{any_join}
use Rattle.object_schema.specs.Schema.{words}
use Rattle.cluster_machine.specs.declared.step.Step.TheVariants as step
use Rattle.cluster_machine.specs.declared.step.Refusal.TheVariants.{VersionLimit}
use Rattle.cluster_machine.specs.Step.{none_given}
use Rattle.cluster_machine.specs.World.{empty, numbered, undelivered}
use Rattle.cluster_machine.specs.Choices.{Decision}
use Rattle.cluster_machine.specs.Worlds.{Model, IsSound}
use Rattle.machine_limits.specs.Steps.{StepFits, HasPlace}
use Rattle.machine_limits.proofs.Nodes.{mail_limit}
use Rattle.machine_origins.proofs.Places.{numbered_within}
use Rattle.machine_limits.proofs.Worlds.{messages_few}
use Rattle.machine_limits.proofs.Moves.{StaysSound, world_wider, world_exact, moves}
use Rattle.machine_limits.proofs.Runs.{RunFits, size_of, far, start_world, message_place, own_place, message_size, waiting}
use Rattle.machine_limits.proofs.Spending.{Mailed, Spends}
use Rattle.object_origins.proofs.Shown.{Facts}
use Rattle.limit_rows.specs.Fitting.{Drawn, AreWithin, RowFits, weight}
use Rattle.limit_rows.proofs.Bounded.{rows_bounded}
use Rattle.limit_laws.proofs.Flows.{within_more, grew_same}
use Rattle.limit_laws.proofs.Words.{key_fits, prefix_fits, object_fits}
use Rattle.limit_laws.proofs.States.{AskedFits, KeyAsked, StoreFits, StateFits, OutFits, nothing_spent, delivers_fits, begins_fits, OrderFits, asked_later}
use Rattle.flow_model.specs.declared.order.Order.{Order}
use Rattle.flow_model.specs.declared.order.Order.TheVariants as order
use Rattle.store_model.specs.declared.event.Event.{Event}
use Rattle.store_model.specs.declared.event.Event.TheVariants.{Trio, Block, Bucket, Role, Redundancy, Apply, Tick, Skew, Put, Get, Head, Delete, Copy, List as Keys, Deliver, Lose, Drain, Expire, Restart, Gossip, Ack, Sync, SyncAck, Clean, Work, Repair, Collect}
use Rattle.store_model.specs.Run.{Moving, State, Asked, Outcome, start, silent, plainly, effect, begins, delivers}
use Rattle.store_model.specs.Acts.{moves as act_moves, plain, IsLawfulAct}
use Rattle.store_model.specs.Events.{object_bytes, act_of, outcome}
use Rattle.text_model.specs.Grammar.{IsAllowed}
use Rattle.text_model.specs.Played.{GoesOn}
use Rattle.audit_model.specs.Lines.{IsNumber}
use Rattle.audit_accounts.specs.Saying.{IsKeyedLine}
use Rattle.audit_accounts.proofs.Nodes.{none_low, node_wider}
use Rattle.audit_accounts.proofs.Worlds.{LinesFit, AnswerFits, WorldNamed, StepNamed, step_named, next_named}
use Rattle.audit_accounts.proofs.Ranges.{AreNumbered, OutNumbered, lists_later, small_of, sent_few, delivers_numbers, begins_numbers}

-- a state that a run within the limits came to in so many events, where all that it names are numbers of the code, and a list has two thousand rows at most for each event and each delivery of a drain
pub record Here (e : ℕ) (s : State) : Type 0 where
  pub t : ℕ
  pub drawn : Drawn
  pub within : AreWithin t drawn
  pub run : RunFits any_join words (RowFits drawn) weight e t s.world
  pub asked : AllByRecursion (AskedFits t drawn) s.asked
  pub block : s.block ≤ 1048576
  pub named : WorldNamed run.k s.world
  pub lists : AreNumbered ((e + run.count) * 2000) s.asked

state_of : (e : ℕ) (s : State) (r : Here e s) → StateFits r.t r.run.k 268435456 r.drawn s
state_of e s r = record { within = r.within; world = r.run.world; asked = r.asked; block = r.block; marks = r.run.marks }

-- in more events
pub here_later : (e u : ℕ) (s : State) → e ≤ u → Here e s → Here u s
here_later e u s h r =
    let run = r.run in
    let steps = run.steps in
    let bytes = run.bytes in
    record {
      t = r.t;
      drawn = r.drawn;
      within = r.within;
      run = record { k = run.k; world = run.world; marks = run.marks; count = run.count; size = run.size; one = run.one; two = run.two; steps = omega (arith, steps, h); bytes = omega (arith, bytes, h) };
      asked = r.asked;
      block = r.block;
      named = r.named;
      lists = lists_later ((e + run.count) * 2000) ((u + run.count) * 2000) (omega (arith, h)) s.asked r.lists;
    }

-- what an event tells, and where the replay goes on, what is known goes on
pub record Told (u : ℕ) (o : Outcome) : Type 0 where
  pub answer : AnswerFits o.refused o.words
  pub lines : LinesFit o.lines
  pub here : Here u o.state

module _ (facts : Facts) (stays : StaysSound any_join words) where
  -- after a step, of which this is known
  goes : (e u : ℕ) (s : State) (o : Outcome) (r : Here e s) (m b most : ℕ) (c : (Mailed AnyRow → ℕ) → ℕ) → OutFits (suc (suc (suc r.t))) m b c s o → suc (suc (suc r.t)) ≤ 3 * (u + (r.run.count + c (λ (x : Mailed AnyRow). 1))) → m ≤ u * 268435456 + (r.run.size + c (size_of words)) →
      most ≤ (u + (r.run.count + c (λ (x : Mailed AnyRow). 1))) * 2000 → GoesOn (record { from = s; outcome = o }) → WorldNamed m o.state.world → AreNumbered most o.state.asked → Here u o.state
  goes e u s o r m b most c f steps bytes low g named lists =
      let x = f.state in
      let few = f.few in
      let one = r.run.one in
      let two = r.run.two in
      let more_one = f.spends (λ (y : Mailed AnyRow). 1) in
      let more_two = f.spends (size_of words) in
      record {
        t = f.steps;
        drawn = f.drawn;
        within = x.within;
        run = record {
          k = m;
          world = world_exact f.steps m b 268435456 o.state.world g.bytes g.sent g.within x.world;
          marks = x.marks;
          count = r.run.count + c (λ (y : Mailed AnyRow). 1);
          size = r.run.size + c (size_of words);
          one = omega arith;
          two = omega arith;
          steps = omega (arith, few, steps);
          bytes = bytes;
        };
        asked = x.asked;
        block = x.block;
        named = named;
        lists = lists_later most ((u + (r.run.count + c (λ (y : Mailed AnyRow). 1))) * 2000) low o.state.asked lists;
      }

  -- ---- a drain's deliveries

  pub delivery_told : (e : ℕ) (s : State) (i : ℕ) → e ≤ 100000 → Here e s → undelivered s.world ≡ Some i → GoesOn (record { from = s; outcome = delivers s i }) → AllByRecursion IsKeyedLine (delivers s i).lines → LinesFit (delivers s i).lines × Here e (delivers s i).state
  delivery_told e s i low r is g keyed =
      let least = waiting {join = any_join} {s = words} s.world i (none_given VersionLimit) r.run.marks is in
      let x = least.message in
      let bounds = far e r.t s.world r.run in
      let sent = r.run.world.few in
      let there = numbered_within s.world.messages i x least.is_there in
      let each = messages_few words s.world.messages r.run.world.bytes r.run.world.bytes_are in
      let number : IsNumber i = omega (arith, there, each, sent) in
      let count = bounds.count in
      let size = bounds.size in
      let steps = r.run.steps in
      let bytes = r.run.bytes in
      let c : (Mailed AnyRow → ℕ) → ℕ = λ f. f x in
      let m = r.run.k + size_of words x in
      let within = message_size e r.t s.world i x r.run least.is_there in
      let place = own_place words s.world i r.run.k x least.is_there in
      let top : m ≤ 27000000000000 = omega (arith, low, bytes, size, within) in
      let out = delivers_fits facts stays r.t r.run.k m 268435456 r.drawn s i c (omega arith) top (omega arith) (omega (arith, low, steps, count)) (state_of e s r) place least.spends in
      let most : ℕ = (e + r.run.count) * 2000 in
      let d = delivers_numbers facts stays r.t r.run.k m 268435456 most r.drawn s i (omega arith) top (omega arith) (omega (arith, low, steps, count)) (omega (arith, low, count)) number (state_of e s r) r.named r.lists place out.room keyed in
      (d.out.lines, goes e e s (delivers s i) r m (268435456 + (mail_limit + mail_limit)) (most + 2000) c out (omega (arith, steps)) (omega (arith, bytes)) (omega arith) g d.out.named d.out.lists)

  -- ---- events that are one step

  abbrev pub IsSingle : Event → Type 0
  IsSingle (Drain n) = ⊥
  IsSingle event = ⊤

  module _ (e : ℕ) (s : State) (low : e < 100000) (r : Here e s) where
    abbrev m : ℕ
    m = r.run.k + 268435456

    abbrev b : ℕ
    b = 268435456 + (mail_limit + mail_limit)

    abbrev most : ℕ
    most = (e + r.run.count) * 2000

    abbrev Out : Outcome → Type 0
    Out o = OutFits (suc (suc (suc r.t))) m b nothing_spent s o

    record Room : Type 0 where
      steps : suc (suc (suc r.t)) ≤ 16777216
      top : m ≤ 27000000000000
      lists : most + 2000 < 2 ^ 64

    room : Room
    room =
        let bounds = far e r.t s.world r.run in
        let count = bounds.count in
        let size = bounds.size in
        let steps = r.run.steps in
        let bytes = r.run.bytes in
        record { steps = omega (arith, low, count, steps); top = omega (arith, low, size, bytes); lists = omega (arith, low, count) }

    wider : (k c u : ℕ) (o : Outcome) → k ≤ m → c ≤ b → u ≤ suc (suc (suc r.t)) → OutFits u k c nothing_spent s o → Out o
    wider k c u o h g low o' =
        let few = o'.few in
        let x = o'.state in
        record {
          room = o'.room;
          versions = o'.versions;
          steps = o'.steps;
          few = omega (arith, few, low);
          drawn = o'.drawn;
          state = record { within = x.within; world = world_wider o'.steps o'.steps k m c b o.state.world (omega arith) x.within.few h g x.world; asked = x.asked; block = x.block; marks = x.marks };
          spends = o'.spends;
        }

    -- what such an event does
    record Does (o : Outcome) : Type 0 where
      fits : Out o
      answer : AnswerFits o.refused o.words
      out : OutNumbered m (most + 2000) o

    named_wider : (k : ℕ) → k ≤ m → (w : Model AnyRow) → WorldNamed k w → WorldNamed m w
    named_wider k up w h = record { nodes = λ n. node_wider k m (w.nodes n) up (h.nodes n); messages = h.messages; requests = h.requests; wanted = h.wanted }

    moved : (mv : Moving) → StepFits (RowFits r.drawn) weight mv.step → HasPlace words r.run.k r.run.k s.world mv.step → IsLawfulAct s (act_moves mv) → StepNamed mv.step → Does (plain s mv)
    moved mv meant place lawful names =
        let steps = room.steps in
        let top = room.top in
        let one = moves (rows_bounded facts r.t r.drawn r.within) stays r.t r.run.k r.run.k 268435456 s.world mv (omega arith) (omega (arith, top)) (omega arith) (omega (arith, steps)) r.run.world r.run.marks meant place lawful.2 in
        let small = small_of facts r.t r.run.k 268435456 r.drawn s.world r.within (omega (arith, top)) r.run.world r.named in
        let effects = step_named r.run.k r.run.k (omega arith) (omega (arith, top)) s.world r.named small mv.step mv.choice names place lawful.2 in
        let after = next_named r.run.k r.run.k (omega arith) (omega (arith, top)) s.world r.named small (effect s mv) effects in
        record {
          fits = wider r.run.k (268435456 + mail_limit) (suc r.t) (plain s mv) (omega arith) (omega arith) (omega arith) (record {
            room = (one.room, tt);
            versions = tt;
            steps = suc r.t;
            few = omega arith;
            drawn = r.drawn;
            state = record { within = within_more r.t r.drawn r.within (omega (arith, steps)); world = one.world; asked = asked_later r.t (suc r.t) r.drawn r.drawn s.asked (omega arith) (grew_same r.drawn) r.asked; block = r.block; marks = one.marks };
            spends = one.spends;
          });
          answer = effects.answer (sent_few s.world mv one.room);
          out = record { lines = effects.lines (sent_few s.world mv one.room); named = named_wider r.run.k (omega arith) (plain s mv).state.world after; lists = lists_later most (most + 2000) (omega arith) s.asked r.lists };
        }

    asked_out : (n : ℕ) (o : Order) → IsNumber n → OrderFits facts stays o → KeyAsked facts stays o → Does (begins s n o)
    asked_out n o number f k =
        let steps = room.steps in
        let top = room.top in
        let fits = begins_fits facts stays r.t r.run.k 268435456 r.drawn s n o (omega (arith, top)) (omega arith) steps (state_of e s r) f k in
        let numbers = begins_numbers facts stays r.t r.run.k 268435456 most r.drawn s n o (omega (arith, top)) (omega arith) (omega (arith, steps)) number (state_of e s r) r.named r.lists fits.room in
        record {
          fits = wider r.run.k b (suc (suc (suc r.t))) (begins s n o) (omega arith) (omega arith) (omega arith) fits;
          answer = numbers.0;
          out = record { lines = numbers.1.lines; named = named_wider r.run.k (omega arith) (begins s n o).state.world numbers.1.named; lists = lists_later most (most + 2000) (omega arith) (begins s n o).state.asked numbers.1.lists };
        }

    rests : (new : State) → new.world ≡ s.world → new.asked ≡ s.asked → new.block ≤ 1048576 → Does (silent new)
    rests new world asked block =
        let x = state_of e s r in
        record {
          fits = wider r.run.k 268435456 r.t (silent new) (omega arith) (omega arith) (omega arith) (record {
            room = tt;
            versions = tt;
            steps = r.t;
            few = omega arith;
            drawn = r.drawn;
            state = record {
              within = r.within;
              world = subst (StoreFits r.t r.run.k 268435456 r.drawn) (sym world) x.world;
              asked = subst (AllByRecursion (AskedFits r.t r.drawn)) (sym asked) x.asked;
              block = block;
              marks = subst (λ (w : Model AnyRow). length w.messages ≡ length w.marks) (sym world) x.marks;
            };
            spends = λ f. subst (λ (w : Model AnyRow). Spends f s.world w 0) (sym world) (omega arith);
          });
          answer = tt;
          out = record {
            lines = tt;
            named = subst (WorldNamed m) (sym world) (named_wider r.run.k (omega arith) s.world r.named);
            lists = subst (AreNumbered (most + 2000)) (sym asked) (lists_later most (most + 2000) (omega arith) s.asked r.lists);
          };
        }

    delivered : (i : ℕ) → IsNumber i → AllByRecursion IsKeyedLine (delivers s i).lines → Does (delivers s i)
    delivered i number keyed =
        let steps = room.steps in
        let top = room.top in
        let lists = room.lists in
        let place = message_place e r.t s.world i m r.run (omega arith) in
        let fits = delivers_fits facts stays r.t r.run.k m 268435456 r.drawn s i nothing_spent (omega arith) top (omega arith) steps (state_of e s r) place
        (λ f. (moves (rows_bounded facts r.t r.drawn r.within) stays r.t r.run.k m 268435456 s.world (plainly (step.Deliver i)) (omega arith) top (omega arith) (omega (arith, steps)) r.run.world r.run.marks tt place tt).spends f) in
        let d = delivers_numbers facts stays r.t r.run.k m 268435456 most r.drawn s i (omega arith) top (omega arith) (omega (arith, steps)) lists number (state_of e s r) r.named r.lists place fits.room keyed in
        record { fits = fits; answer = d.answer; out = d.out }

    event_does : (event : Event) (choice : Decision) → IsSingle event → IsAllowed event → IsLawfulAct s (act_of event choice) → AllByRecursion IsKeyedLine (outcome s event choice).lines → Does (outcome s event choice)
    event_does Trio choice single allowed lawful keyed = moved (plainly step.Trio) tt tt lawful tt
    event_does (Block size) choice single allowed lawful keyed = rests (record s { block = size }) refl refl allowed.1
    event_does (Bucket name) choice single allowed lawful keyed = rests (record s { buckets = s.buckets ++ name ∷ [] }) refl refl r.block
    event_does (Role n role) choice single allowed lawful keyed = moved (plainly (step.Role n role)) tt tt lawful tt
    event_does (Redundancy wanted) choice single allowed lawful keyed = moved (plainly (step.Redundancy wanted)) tt tt lawful lawful.1
    event_does (Apply n) choice single allowed lawful keyed = moved (record { step = step.Apply n; choice = choice }) tt tt lawful tt
    event_does (Tick ms) choice single allowed lawful keyed = moved (plainly (step.Tick ms)) allowed.1 tt lawful tt
    event_does (Skew n ms) choice single allowed lawful keyed = moved (plainly (step.Skew n ms)) allowed.1.1 tt lawful tt
    event_does (Put n bucket key size fill) choice single allowed lawful keyed =
        let k = key_fits key allowed.0.1.1 in
        let body = object_fits size fill in
        let long = body.1 in
        let top = allowed.1.0.1 in
        let node = allowed.0.0.1 in
        asked_out n (order.Put bucket key (object_bytes size fill) []) (omega arith) (k.0, k.1, body.0, omega arith, refl) tt
    event_does (Get n bucket key) choice single allowed lawful keyed = let node = allowed.0.1 in asked_out n (order.Get bucket key) (omega arith) tt (key_fits key allowed.1.1).1
    event_does (Head n bucket key) choice single allowed lawful keyed = let node = allowed.0.1 in asked_out n (order.Head bucket key) (omega arith) tt (key_fits key allowed.1.1).1
    event_does (Delete n bucket key) choice single allowed lawful keyed = let node = allowed.0.1 in asked_out n (order.Delete bucket key) (omega arith) (key_fits key allowed.1.1) tt
    event_does (Copy n from_bucket from_key bucket key) choice single allowed lawful keyed =
        let k = key_fits key allowed.1.1 in
        let node = allowed.0.0.1 in
        asked_out n (order.Copy from_bucket from_key bucket key None) (omega arith) (k.0, k.1, refl) (key_fits from_key allowed.0.1.1).1
    event_does (Keys n bucket prefix) choice single allowed lawful keyed = let node = allowed.0.1 in asked_out n (order.List bucket prefix) (omega arith) (prefix_fits prefix allowed.1.1) tt
    event_does (Deliver i) choice single allowed lawful keyed = let top = allowed.1 in delivered i (omega arith) keyed
    event_does (Lose i) choice single allowed lawful keyed = moved (plainly (step.Lose i)) tt tt lawful tt
    event_does (Drain n) choice single allowed lawful keyed = absurd single
    event_does (Expire q) choice single allowed lawful keyed = moved (plainly (step.Expire q)) tt tt lawful tt
    event_does (Restart n) choice single allowed lawful keyed = moved (plainly (step.Restart n)) tt tt lawful tt
    event_does (Gossip from to) choice single allowed lawful keyed = let one = allowed.0.1 in let two = allowed.1.1 in moved (plainly (step.Gossip from to)) tt tt lawful (omega arith, omega arith)
    event_does (Ack n) choice single allowed lawful keyed = let node = allowed.1 in moved (plainly (step.Ack n)) tt tt lawful (omega arith)
    event_does (Sync n) choice single allowed lawful keyed = let node = allowed.1 in moved (plainly (step.Sync n)) tt tt lawful (omega arith)
    event_does (SyncAck n) choice single allowed lawful keyed = let node = allowed.1 in moved (plainly (step.SyncAck n)) tt tt lawful (omega arith)
    event_does (Clean n) choice single allowed lawful keyed = let node = allowed.1 in moved (plainly (step.Clean n)) tt tt lawful (omega arith)
    event_does (Work n) choice single allowed lawful keyed = let node = allowed.1 in moved (plainly (step.Work n)) tt tt lawful (omega arith)
    event_does (Repair n) choice single allowed lawful keyed = let node = allowed.1 in moved (plainly (step.Repair n)) tt tt lawful (omega arith)
    event_does (Collect n) choice single allowed lawful keyed = let node = allowed.1 in moved (plainly (step.Collect n)) tt tt lawful (omega arith)

    -- such an event
    pub event_told : (event : Event) (choice : Decision) → IsSingle event → IsAllowed event → IsLawfulAct s (act_of event choice) → GoesOn (record { from = s; outcome = outcome s event choice }) → AllByRecursion IsKeyedLine (outcome s event choice).lines → Told (suc e) (outcome s event choice)
    event_told event choice single allowed lawful g keyed =
        let steps = r.run.steps in
        let bytes = r.run.bytes in
        let d = event_does event choice single allowed lawful keyed in
        record {
          answer = d.answer;
          lines = d.out.lines;
          here = goes e (suc e) s (outcome s event choice) r m b (most + 2000) nothing_spent d.fits (omega (arith, steps)) (omega (arith, bytes)) (omega arith) g d.out.named d.out.lists;
        }

-- the first state
pub first_here : IsSound (empty {R = AnyRow} {L = Layout}) → Here 0 start
first_here sound =
    let none : Drawn = record { versions = []; parts = [] } in
    record {
      t = 0;
      drawn = none;
      within = record { few = omega arith; few_versions = omega arith; few_parts = omega arith; versions_fit = λ x h. absurd h; parts_fit = λ p h. absurd h };
      run = record { k = 0; world = start_world sound; marks = refl; count = 0; size = 0; one = omega arith; two = omega arith; steps = omega arith; bytes = omega arith };
      asked = tt;
      block = omega arith;
      named = record { nodes = λ n. record { blocks = omega arith; entries = none_low; round = tt; mending = tt; lasting = tt; few_open = omega arith }; messages = tt; requests = tt; wanted = tt };
      lists = λ q a is. absurd (no_numbered q a is);
    }
  where
    no_numbered : (q : ℕ) (a : Asked) → numbered [] q ≡ Some a → ⊥
    no_numbered zero a h = cc
    no_numbered (suc q) a h = cc
