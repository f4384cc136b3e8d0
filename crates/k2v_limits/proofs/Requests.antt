-- Each act of a schedule over items leaves a state within the limits so, and has room for its numbers and rows.
use Rattle.std.specs.Prelude.{◌≡◌, ◌≤◌, ◌+◌, ◌-◌, ℕ, suc, Bool, true, false, cond, if◌then◌else◌, List, [], ◌∷◌, ◌++◌, Option, Some, None, length, refl, ⊤}
use Rattle.std.specs.Option.{unwrap_or}
use Rattle.std.specs.List.{AllByRecursion}
use Rattle.std.proofs.Common.{◌∙◌, arith, length-append, lit≤}
use Rattle.std.proofs.lemmas.List.{length-set}
use Rattle.blake2_hash.specs.Blake2b.{blake2b}
use Rattle.blake2_hash.specs.DigestLaws.{length-blake2b}
use Rattle.crdt_core.proofs.Each.{all_append}
use Rattle.row_codec.specs.Spelling.{four, field}
use Rattle.row_codec.proofs.ByteOrder.{four_length}
use Rattle.wire_messages.specs.declared.phase.PhaseEnd.{PhaseEnd}
use Rattle.wire_messages.specs.declared.phase.PhaseEnd.TheVariants.{Row, Window, Kept, Block}
use Rattle.wire_messages.specs.declared.phase.Phase.TheVariants.{Store}
use Rattle.cluster_machine.specs.declared.step.Refusal.TheVariants.{NotMember, NoSuchBucket, VersionLimit}
use Rattle.cluster_machine.specs.declared.step.Step.TheVariants as step
use Rattle.cluster_machine.specs.Layouts.{layouts}
use Rattle.cluster_machine.specs.Node.{Ended}
use Rattle.cluster_machine.specs.World.{numbered, is_member_at}
use Rattle.cluster_machine.specs.Step.{none_given}
use Rattle.cluster_machine.specs.Worlds.{IsLawful, HaveRoom}
use Rattle.machine_origins.proofs.Lists.{all_numbered}
use Rattle.machine_origins.proofs.Places.{numbered_within}
use Rattle.machine_limits.specs.Steps.{StepFits, HasPlace}
use Rattle.machine_limits.proofs.Lists.{all_set}
use Rattle.machine_limits.proofs.Nodes.{mail_limit}
use Rattle.machine_limits.proofs.Worlds.{WorldFits}
use Rattle.machine_limits.proofs.Given.{GivesFit, delivery_gives}
use Rattle.machine_limits.proofs.Moves.{StaysSound, world_wider, moves}
use Rattle.machine_limits.proofs.Spending.{Mailed, Spends}
use Rattle.k2v_rows.specs.declared.value.K2vValue.{K2vValue}
use Rattle.k2v_rows.specs.declared.k2v_row.K2vRow.{K2vRow}
use Rattle.k2v_rows.specs.Row.{row_join, after_put, can_put}
use Rattle.k2v_schema.specs.Schema.{words, key_of as row_key}
use Rattle.k2v_model.specs.declared.order.Item.{Item}
use Rattle.k2v_model.specs.declared.order.Ask.{Ask}
use Rattle.k2v_model.specs.declared.order.Ask.TheVariants.{Write, Read}
use Rattle.k2v_model.specs.declared.order.Order.{Order}
use Rattle.k2v_model.specs.declared.line.ItemLine.{ItemLine}
use Rattle.k2v_model.specs.declared.line.ItemRefusal.{ItemRefusal}
use Rattle.k2v_model.specs.declared.line.ItemRefusal.TheVariants.{Cluster, NoSuchToken, Busy}
use Rattle.k2v_model.specs.Orders.{key_of, empty_row, asks_for}
use Rattle.k2v_model.specs.Run.{Moving, Stage, reading, storing, stored, shown, over, ItemRequest, is_open, State, token_at, is_token, busy_from, Outcome, silent, refusal, plainly, effect, doing, phases, set_stage, new_request, begins_reading, unless_busy, admits, is_bucket, begins, stores, finishes, writes, reads_on, follows, follow, goes_on, delivers}
use Rattle.k2v_model.specs.Acts.{ends_one, ends_all, plain}
use Rattle.k2v_limits.proofs.Rows.{IsTime, ValueFits, KeyFits, RowFits, TokenFits, put_fits, token_fits}
use Rattle.k2v_limits.proofs.Weights.{weight, row_few, rows_bounded}

-- ---- requests

abbrev pub AskFits : Ask → Type 0
AskFits (Write value token) = ValueFits value
AskFits Read = ⊤

-- what a read shows fits
abbrev pub StageFits : Stage → Type 0
StageFits reading = ⊤
StageFits (storing row) = ⊤
StageFits (stored row) = ⊤
StageFits (shown None begun) = ⊤
StageFits (shown (Some row) begun) = RowFits row
StageFits over = ⊤

-- a request of a schedule
pub record RequestFits (a : ItemRequest) : Type 0 where
  pub node : a.node ≤ 255
  pub key : KeyFits (key_of a.order.item)
  pub ask : AskFits a.order.ask
  pub stage : StageFits a.stage

abbrev pub AreRequests : List ItemRequest → Type 0
AreRequests requests = AllByRecursion RequestFits requests

staged : (requests : List ItemRequest) (q : ℕ) (a : ItemRequest) (stage : Stage) → AreRequests requests → RequestFits a → StageFits stage → AreRequests (set_stage requests q a stage)
staged requests q a stage all fits h = all_set RequestFits requests (q - 1) (record a { stage = stage }) all (record { node = fits.node; key = fits.key; ask = fits.ask; stage = h })

staged_length : (requests : List ItemRequest) (q : ℕ) (a : ItemRequest) (stage : Stage) → length (set_stage requests q a stage) ≡ length requests
staged_length requests q a stage = length-set requests (q - 1) (record a { stage = stage })

one_ended : (requests : List ItemRequest) (q : ℕ) (o : Option ItemRequest) → numbered requests q ≡ o → AreRequests requests → AreRequests (ends_one requests q o) × (length (ends_one requests q o) ≡ length requests)
one_ended requests q None e all = (all, refl)
one_ended requests q (Some a) e all =
    elim (is_open a.stage) as (λ b. (let is = cond b (set_stage requests q a over) requests in AreRequests is × (length is ≡ length requests))) [
      | true ↦ (staged requests q a over all (all_numbered RequestFits requests q a all e) tt, staged_length requests q a over)
      | false ↦ (all, refl)
    ]

all_ended : (requests : List ItemRequest) (qs : List ℕ) → AreRequests requests → AreRequests (ends_all requests qs) × (length (ends_all requests qs) ≡ length requests)
all_ended requests [] all = (all, refl)
all_ended requests (q ∷ qs) all =
    let one = one_ended requests q (numbered requests q) refl all in
    let rest = all_ended (ends_one requests q (numbered requests q)) qs one.0 in
    (rest.0, rest.1 ∙ one.1)

-- the times of a token
times_fit : (o : Option ItemRequest) → ((a : ItemRequest) → o ≡ Some a → RequestFits a) → TokenFits (token_at o)
times_fit None h = tt
times_fit (Some a) h = by_stage a.stage (h a refl).stage
  where
    by_stage : (stage : Stage) → StageFits stage → TokenFits (token_at (Some (record a { stage = stage })))
    by_stage reading f = tt
    by_stage (storing row) f = tt
    by_stage (stored row) f = tt
    by_stage (shown None begun) f = tt
    by_stage (shown (Some row) begun) f = token_fits row f
    by_stage over f = tt

-- ---- states

-- a state after so many steps
pub record StateFits (t k b : ℕ) (s : State) : Type 0 where
  pub world : WorldFits row_join words RowFits weight t k b s.world
  pub requests : AreRequests s.requests
  pub few : length s.requests ≤ t
  pub marks : length s.world.messages ≡ length s.world.marks

pub state_wider : (t u k m b c : ℕ) (s : State) → t ≤ u → u ≤ 16777216 → k ≤ m → b ≤ c → StateFits t k b s → StateFits u m c s
state_wider t u k m b c s later early grows low f =
    let few = f.few in
    record { world = world_wider t u k m b c s.world later early grows low f.world; requests = f.requests; few = omega (arith, few, later); marks = f.marks }

-- an outcome has room, and leaves a state within the limits, in which no fewer messages were spent
pub record OutFits (u k b : ℕ) (c : (Mailed K2vRow → ℕ) → ℕ) (s : State) (o : Outcome) : Type 0 where
  pub room : HaveRoom row_join words s.world o.moves
  pub steps : ℕ
  pub few : steps ≤ u
  pub state : StateFits steps k b o.state
  pub spends : (f : Mailed K2vRow → ℕ) → Spends f s.world o.state.world (c f)

abbrev pub nothing_spent : (Mailed K2vRow → ℕ) → ℕ
nothing_spent f = 0

pub still_out : (t u k m b c : ℕ) (s : State) → t ≤ u → u ≤ 16777216 → k ≤ m → b ≤ c → StateFits t k b s → OutFits u m c nothing_spent s (silent s)
still_out t u k m b c s later early grows low fits = record {
  room = tt;
  steps = t;
  few = later;
  state = state_wider t t k m b c s (omega arith) (omega (arith, later, early)) grows low fits;
  spends = λ f. omega arith;
}

module _ (stays : StaysSound row_join words) where
  -- ---- requests go on

  module _ (t k b : ℕ) (s : State) (top : k ≤ 27000000000000) (low : b ≤ 8000000000000000000) (few : suc (suc t) ≤ 16777216) (fits : StateFits t k b s) where
    abbrev Out : Outcome → Type 0
    Out o = OutFits (suc (suc t)) k (b + mail_limit) nothing_spent s o

    silent_out : Out (silent s)
    silent_out = still_out t (suc (suc t)) k k b (b + mail_limit) s (omega arith) few (omega arith) (omega arith) fits

    stores_out : (q : ℕ) (a : ItemRequest) (row : K2vRow) → RequestFits a → RowFits row → Out (stores s q a row)
    stores_out q a row ok fit =
        let m = moves rows_bounded stays t k k b s.world (phases q (Store ((row, None) ∷ []))) (omega arith) top (omega (arith, low)) (omega (arith, few)) fits.world fits.marks (omega arith, ((fit, row_few row fit, tt), tt)) tt tt in
        let same = staged_length s.requests q a (storing row) in
        let count = fits.few in
        record {
          room = (m.room, tt);
          steps = suc t;
          few = omega arith;
          state = record { world = m.world; requests = staged s.requests q a (storing row) fits.requests ok tt; few = omega (arith, same, count); marks = m.marks };
          spends = m.spends;
        }

    finishes_out : (q : ℕ) (a : ItemRequest) (stage : Stage) (line : ItemLine) → RequestFits a → StageFits stage → Out (finishes s q a stage line)
    finishes_out q a stage line ok fit =
        let m = moves rows_bounded stays t k k b s.world (plainly (step.Close q)) (omega arith) top (omega (arith, low)) (omega (arith, few)) fits.world fits.marks tt tt tt in
        let same = staged_length s.requests q a stage in
        let count = fits.few in
        record {
          room = (m.room, tt);
          steps = suc t;
          few = omega arith;
          state = record { world = m.world; requests = staged s.requests q a stage fits.requests ok fit; few = omega (arith, same, count); marks = m.marks };
          spends = m.spends;
        }

    -- what a read phase gave
    abbrev ReadFits : Option K2vRow → Type 0
    ReadFits None = ⊤
    ReadFits (Some row) = RowFits row

    base_fits : (item : Item) (read : Option K2vRow) → KeyFits (key_of item) → ReadFits read → RowFits (unwrap_or read (empty_row item))
    base_fits item None key h = (key, tt)
    base_fits item (Some row) key h = h

    shown_fits : (read : Option K2vRow) (begun : ℕ) → ReadFits read → StageFits (shown read begun)
    shown_fits None begun h = tt
    shown_fits (Some row) begun h = h

    writes_out : (q : ℕ) (a : ItemRequest) (value : K2vValue) (token : ℕ) (read : Option K2vRow) → RequestFits a → IsTime q → ValueFits value → ReadFits read → Out (writes s q a value token read)
    writes_out q a value token read ok early short h =
        let base = unwrap_or read (empty_row a.order.item) in
        let times = token_at (numbered s.requests token) in
        let fit = put_fits base a.node q value times (base_fits a.order.item read ok.key h) ok.node early short (times_fit (numbered s.requests token) (λ x e. all_numbered RequestFits s.requests token x fits.requests e)) in
        elim (can_put base a.node q times) as (λ c. Out (cond c (stores s q a (after_put base a.node q value times)) (silent s))) [
          | true ↦ stores_out q a (after_put base a.node q value times) ok fit
          | false ↦ silent_out
        ]

    reads_out : (q : ℕ) (a : ItemRequest) (read : Option K2vRow) (ask : Ask) → RequestFits a → IsTime q → ReadFits read → AskFits ask → Out (reads_on s q a read ask)
    reads_out q a read (Write value token) ok early h short = writes_out q a value token read ok early short h
    reads_out q a read Read ok early h short = finishes_out q a (shown read (length s.requests)) _ ok (shown_fits read (length s.requests) h)

    given_fits : (read : Option K2vRow) → GivesFit RowFits (Row read) → ReadFits read
    given_fits None h = tt
    given_fits (Some row) h = h

    follows_out : (q : ℕ) (a : ItemRequest) (end : PhaseEnd K2vRow) (stage : Stage) → RequestFits a → IsTime q → GivesFit RowFits end → Out (follows s q a end stage)
    follows_out q a (Row read) reading ok early h = reads_out q a read a.order.ask ok early (given_fits read h) ok.ask
    follows_out q a (Row read) (storing row) ok early h = silent_out
    follows_out q a (Row read) (stored row) ok early h = silent_out
    follows_out q a (Row read) (shown given begun) ok early h = silent_out
    follows_out q a (Row read) over ok early h = silent_out
    follows_out q a (Window rows end) stage ok early h = silent_out
    follows_out q a Kept reading ok early h = silent_out
    follows_out q a Kept (storing row) ok early h = finishes_out q a (stored row) _ ok tt
    follows_out q a Kept (stored row) ok early h = silent_out
    follows_out q a Kept (shown given begun) ok early h = silent_out
    follows_out q a Kept over ok early h = silent_out
    follows_out q a (Block bytes) stage ok early h = silent_out

    follow_out : (q : ℕ) (o : Option ItemRequest) → numbered s.requests q ≡ o → (end : PhaseEnd K2vRow) → GivesFit RowFits end → Out (follow s q o end)
    follow_out q None e end h = silent_out
    follow_out q (Some a) e end h =
        let within = numbered_within s.requests q a e in
        let count = fits.few in
        follows_out q a end a.stage (all_numbered RequestFits s.requests q a fits.requests e) (omega (arith, within, count, few)) h

    pub goes_on_out : (ends : List (Ended K2vRow)) → AllByRecursion (λ (e : Ended K2vRow). GivesFit RowFits e.how) ends → Out (goes_on s ends)
    goes_on_out [] h = silent_out
    goes_on_out (e ∷ es) h = follow_out e.request (numbered s.requests e.request) refl e.how h.0

  -- ---- deliveries

  pub delivers_out : (t k m b : ℕ) (s : State) (i : ℕ) (c : (Mailed K2vRow → ℕ) → ℕ) → k ≤ m → m ≤ 27000000000000 → b ≤ 4000000000000000000 → suc (suc (suc t)) ≤ 16777216 → StateFits t k b s → HasPlace words k m s.world (step.Deliver i) →
      ((f : Mailed K2vRow → ℕ) → Spends f s.world (doing s (plainly (step.Deliver i))).world (c f)) → OutFits (suc (suc (suc t))) m (b + (mail_limit + mail_limit)) c s (delivers s i)
  delivers_out t k m b s i c grows top low few fits place spends =
      let d = plainly (step.Deliver i) in
      let moved = moves rows_bounded stays t k m b s.world d grows top (omega (arith, low)) (omega (arith, few)) fits.world fits.marks tt place tt in
      let count = fits.few in
      let now : StateFits (suc t) m (b + mail_limit) (doing s d) = record { world = moved.world; requests = fits.requests; few = omega (arith, count); marks = moved.marks } in
      let o = goes_on_out (suc t) m (b + mail_limit) (doing s d) top (omega (arith, low)) few now (effect s d).ends (delivery_gives rows_bounded t k b s.world i (none_given VersionLimit) fits.world) in
      let steps = o.few in
      record {
        room = (moved.room, o.room);
        steps = o.steps;
        few = steps;
        state = state_wider o.steps o.steps m m (b + mail_limit + mail_limit) (b + (mail_limit + mail_limit)) _ (omega arith) (omega (arith, steps, few)) (omega arith) (omega arith) o.state;
        spends = λ f. let one = spends f in let two = o.spends f in omega (arith, one, two);
      }

  -- ---- new requests

  -- what an order asks for is short
  pub record OrderFits (n : ℕ) (order : Order) : Type 0 where
    pub node : n ≤ 255
    pub key : KeyFits (key_of order.item)
    pub ask : AskFits order.ask

  asks_short : (item : Item) → KeyFits (key_of item) → length (row_key (empty_row item)) ≤ 200
  asks_short item f =
      let hash = blake2b 32 item.bucket in
      let a = length-append hash (field item.pk ++ item.sk) in
      let b = length-append (field item.pk) item.sk in
      let c = length-append (four (length item.pk)) item.pk in
      let d = four_length (length item.pk) in
      let e = length-blake2b 32 item.bucket (lit≤ tt) in
      let pk = f.2 in
      let sk = f.4 in
      omega (arith, a, b, c, d, e, pk, sk)

  module _ (t k b : ℕ) (s : State) (n : ℕ) (order : Order) (top : k ≤ 27000000000000) (low : b ≤ 4000000000000000000) (few : suc (suc (suc t)) ≤ 16777216) (fits : StateFits t k b s) (of : OrderFits n order) where
    abbrev Begun : Outcome → Type 0
    Begun o = OutFits (suc (suc (suc t))) k (b + (mail_limit + mail_limit)) nothing_spent s o

    refused_out : (r : ItemRefusal) → Begun (refusal s r)
    refused_out r =
        let o = still_out t (suc (suc (suc t))) k k b (b + (mail_limit + mail_limit)) s (omega arith) few (omega arith) (omega arith) fits in
        record { room = tt; steps = o.steps; few = o.few; state = o.state; spends = o.spends }

    reading_out : Begun (begins_reading s n order)
    reading_out =
        let q = suc (length s.world.requests) in
        let opens = plainly (step.Open n) in
        let one = moves rows_bounded stays t k k b s.world opens (omega arith) top (omega (arith, low)) (omega (arith, few)) fits.world fits.marks tt tt tt in
        let here : State = doing s opens in
        let two = moves rows_bounded stays (suc t) k k (b + mail_limit) here.world (phases q (asks_for order.item)) (omega arith) top (omega (arith, low)) (omega (arith, few)) one.world one.marks (asks_short order.item of.key) tt tt in
        let longer = length-append s.requests (new_request s n order ∷ []) in
        let count = fits.few in
        record {
          room = (one.room, (two.room, tt));
          steps = suc (suc t);
          few = omega arith;
          state = record {
            world = world_wider (suc (suc t)) (suc (suc t)) k k (b + mail_limit + mail_limit) (b + (mail_limit + mail_limit)) _ (omega arith) (omega (arith, few)) (omega arith) (omega arith) two.world;
            requests = all_append RequestFits s.requests (new_request s n order ∷ []) fits.requests (record { node = of.node; key = of.key; ask = of.ask; stage = tt }, tt);
            few = omega (arith, longer, count);
            marks = two.marks;
          };
          spends = λ f. let x = one.spends f in let y = two.spends f in omega (arith, x, y);
        }

    unless_out : (o : Option ℕ) → Begun (unless_busy s n order o)
    unless_out None = reading_out
    unless_out (Some q) = refused_out (Busy q)

    either : (c : Bool) (o p : Outcome) → Begun o → Begun p → Begun (if c then o else p)
    either true o p x y = x
    either false o p x y = y

    admits_out : (ask : Ask) → Begun (admits s n order ask)
    admits_out (Write value token) = either (is_token s.requests (key_of order.item) token) _ _ (unless_out (busy_from 1 s.requests n (key_of order.item))) (refused_out (NoSuchToken token))
    admits_out Read = reading_out

    pub begins_out : Begun (begins s n order)
    begins_out = either (is_member_at layouts s.world n) _ _ (either (is_bucket s.buckets order.item.bucket) _ _ (admits_out order.ask) (refused_out (Cluster NoSuchBucket))) (refused_out (Cluster NotMember))

  -- ---- a step of the world

  pub plain_out : (t k m b : ℕ) (s : State) (mv : Moving) → k ≤ m → m ≤ 27000000000000 → b ≤ 12000000000000000000 → suc t ≤ 16777216 → StateFits t k b s → StepFits RowFits weight mv.step → HasPlace words k m s.world mv.step → IsLawful s.world mv →
      OutFits (suc t) m (b + mail_limit) nothing_spent s (plain s mv)
  plain_out t k m b s mv grows top low few fits meant place lawful =
      let one = moves rows_bounded stays t k m b s.world mv grows top low few fits.world fits.marks meant place lawful in
      let ended = all_ended s.requests (effect s mv).closes fits.requests in
      let same = ended.1 in
      let count = fits.few in
      record {
        room = (one.room, tt);
        steps = suc t;
        few = omega arith;
        state = record { world = one.world; requests = ended.0; few = omega (arith, same, count); marks = one.marks };
        spends = one.spends;
      }
