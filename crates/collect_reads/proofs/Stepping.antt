-- Every step and run: what open requests have got came in messages, and messages about a request were sent since it began.
use Rattle.std.specs.Prelude.{◌≡◌, ◌≤◌, ◌<◌, ◌+◌, ℕ, zero, suc, Bool, true, false, not, cond, ◌==◌, ◌&&◌, leb, List, [], ◌∷◌, ◌++◌, Option, Some, None, length, map, slice_get, refl, ⊤}
use Rattle.std.specs.Option.{unwrap_or}
use Rattle.std.specs.List.{AllByRecursion}
use Rattle.std.proofs.Common.{ap, sym, subst, ◌∙◌, inl, inr, length-append, arith}
use Rattle.std.proofs.lemmas.Bool.{cases_lt}
use Rattle.std.proofs.lemmas.List.{length-map}
use Rattle.crdt_core.specs.Members.{Has}
use Rattle.crdt_core.proofs.Each.{all_append, all_weaker}
use Rattle.layout_roles.specs.declared.role.Role.{Role}
use Rattle.view_model.specs.View.{newest}
use Rattle.table_schema.specs.Words.{Words}
use Rattle.table_schema.specs.Laws.{Laws}
use Rattle.quorum_model.specs.Quorum.{is_among}
use Rattle.wire_messages.specs.declared.message.Message.TheVariants.{Get, Row, Range, Rows, Store, Stored, Behind, NotHere, BlockGet, Block, NoBlock, Walk as AsksValue, Same as HasSame, Differ, Tomb, Tombed, Forget}
use Rattle.wire_messages.specs.declared.phase.Phase.{Phase}
use Rattle.cluster_machine.specs.declared.step.Step.{Step}
use Rattle.cluster_machine.specs.declared.step.Step.TheVariants.{Trio, Role as Stage, Redundancy as Spread, Apply, Tick, Skew, Deliver, Lose, Expire, Restart, Gossip, Ack, Sync as Syncs, SyncAck, Clean, Work, Repair, Collect, Open, Phase as Begin, Close}
use Rattle.cluster_machine.specs.declared.step.Action.{Action}
use Rattle.cluster_machine.specs.declared.step.Action.TheVariants.{Ack as RaiseAck, Sync as GoOn, SyncAck as RaiseSyncAck, Clean as CleanUp, Work as WorkOff, Repair as Mend, Collect as Gather}
use Rattle.cluster_machine.specs.declared.step.Refusal.{Refusal}
use Rattle.cluster_machine.specs.declared.step.Refusal.TheVariants.{VersionTaken, VersionLimit, NotMember, NoSuchMessage, Lost, NoSuchRequest, AlreadyEnded}
use Rattle.cluster_machine.specs.declared.step.Words.{Words as Told}
use Rattle.cluster_machine.specs.Layouts.{Layouts, has_none}
use Rattle.cluster_machine.specs.Node.{Present, resting, asking, scanning, storing, fetching, Call, Node, Packet, says, shows, Post, Did, quiet}
use Rattle.cluster_machine.specs.Phases.{opened, closed, call_at}
use Rattle.cluster_machine.specs.Acts.{acts, appends, restarts}
use Rattle.cluster_machine.specs.World.{Sent, Mark, Request, World, numbered, clock, is_member_at, empty}
use Rattle.cluster_machine.specs.Step.{most_versions, Choice, given, none_given, Effects, nothing, refusal, only, sent_by, did, received, at_message, expires, closing, chosen, applies_at, trio_applies, acting, begun, beginning, opening, effects, changed, applied, shut}
use Rattle.cluster_machine.specs.Run.{Move, IsRun, IsStep, does, next, run}
use Rattle.cluster_machine.proofs.Closing.{length_shut}
use Rattle.machine_origins.specs.Origins.{stored_by}
use Rattle.machine_origins.proofs.Lists.{all_any, all_parts, all_filter, all_numbered}
use Rattle.machine_origins.proofs.Good.{any_rules}
use Rattle.machine_origins.proofs.Sound.{Asks, IsPacket, IsSent}
use Rattle.machine_origins.proofs.Sound as origin
use Rattle.machine_origins.proofs.Steps.{Stands, empty_stands, stands_next}
use Rattle.machine_collects.specs.Prompt.{moments_after, moments_over}
use Rattle.collect_reads.proofs.Came.{AnyRow, AnyBlock, CameAnswer, Holds, HoldsSent, Gives, IsTraced, begins_traced, acts_traced, receives_traced}

-- ---- lists

-- each element is there
pub each : {X : Type 0} (xs : List X) → AllByRecursion (Has xs) xs
each [] = tt
each (x ∷ xs) = (inl refl, all_weaker (Has xs) (Has (x ∷ xs)) (λ y h. inr h) xs (each xs))

has_left : {X : Type 0} (xs ys : List X) (x : X) → Has xs x → Has (xs ++ ys) x
has_left [] ys x h = absurd h
has_left (z ∷ xs) ys x h = elim h [ inl e ↦ inl e | inr more ↦ inr (has_left xs ys x more) ]

front_get : {X : Type 0} (xs ys : List X) (n : ℕ) → suc n ≤ length xs → slice_get (xs ++ ys) n ≡ slice_get xs n
front_get [] ys n h = absurd (omega (arith, h))
front_get (x ∷ xs) ys zero h = refl
front_get (x ∷ xs) ys (suc n) h = front_get xs ys n (omega (arith, h))

numbered_front : {X : Type 0} (xs ys : List X) (q : ℕ) → q ≤ length xs → numbered (xs ++ ys) q ≡ numbered xs q
numbered_front xs ys zero h = refl
numbered_front xs ys (suc n) h = front_get xs ys n h

some_get : {X : Type 0} (xs : List X) (n : ℕ) → suc n ≤ length xs → (x : X) × (slice_get xs n ≡ Some x)
some_get [] n h = absurd (omega (arith, h))
some_get (x ∷ xs) zero h = (x, refl)
some_get (x ∷ xs) (suc n) h = some_get xs n (omega (arith, h))

-- what has a number up to the length is there
pub numbered_some : {X : Type 0} (xs : List X) (q : ℕ) → 1 ≤ q → q ≤ length xs → (x : X) × (numbered xs q ≡ Some x)
numbered_some xs zero some h = absurd (omega (arith, some))
numbered_some xs (suc n) some h = some_get xs n h

all_both : {X : Type 0} (P Q S : X → Type 0) → ((x : X) → P x → Q x → S x) → (xs : List X) → AllByRecursion P xs → AllByRecursion Q xs → AllByRecursion S xs
all_both P Q S f [] a b = tt
all_both P Q S f (x ∷ xs) a b = (f x a.0 b.0, all_both P Q S f xs a.1 b.1)

-- ---- messages about a request

-- a message of this moment about a request, which had begun
pub record IsSince (moments : List ℕ) (moment request : ℕ) : Type 0 where
  pub begun : request ≤ length moments
  pub since : (began : ℕ) → numbered moments request ≡ Some began → began ≤ moment

abbrev pub IsSinceAny : List ℕ → ℕ → Option ℕ → Type 0
IsSinceAny moments moment None = ⊤
IsSinceAny moments moment (Some request) = IsSince moments moment request

-- the request that a packet answers with rows
abbrev pub answered : {R L : Type 0} → Packet R L → Option ℕ
answered (says (Row request phase (Some r))) = Some request
answered (says (Rows request phase rows more)) = Some request
answered _ = None

since_later : (moments more : List ℕ) (moment : ℕ) (o : Option ℕ) → IsSinceAny moments moment o → IsSinceAny (moments ++ more) moment o
since_later moments more moment None i = tt
since_later moments more moment (Some request) i =
    let sum = length-append moments more in
    let low = i.begun in
    record { begun = omega (arith, sum, low); since = λ began e. i.since began (sym (numbered_front moments more request i.begun) ∙ e) }

-- what is answered was asked of a request that began
module _ {R : Type 0} (join : R → R → R) (s : Words R) (g : Asks) (count : ℕ) (later : (n request phase : ℕ) → count < request → g n request phase ≡ None) where
  was_asked : (n request phase : ℕ) (a : origin.Asked) → g n request phase ≡ Some a → request ≤ count
  was_asked n request phase a e = elim (cases_lt count request) [
    | inl late ↦ (let both : Some a ≡ None = sym e ∙ later n request phase late in absurd cc)
    | inr low ↦ low
  ]

  module _ {L : Type 0} where
    answered_low : (from to : ℕ) (p : Packet R L) (request : ℕ) → answered p ≡ Some request → IsPacket join s AnyRow AnyBlock g from to p → request ≤ count
    answered_low from to (says (Get q phase at table key)) request e i = absurd cc
    answered_low from to (says (Row q phase None)) request e i = absurd cc
    answered_low from to (says (Row q phase (Some r))) request e i = (let same : q ≡ request = ap (λ (o : Option ℕ). unwrap_or o q) e in subst (λ z. z ≤ count) same (was_asked to q phase _ i.0))
    answered_low from to (says (Range q phase at bucket prefix after)) request e i = absurd cc
    answered_low from to (says (Rows q phase rows more)) request e i = (let same : q ≡ request = ap (λ (o : Option ℕ). unwrap_or o q) e in subst (λ z. z ≤ count) same (was_asked to q phase _ i.is))
    answered_low from to (says (Store tag named p rows)) request e i = absurd cc
    answered_low from to (says (Stored tag)) request e i = absurd cc
    answered_low from to (says (Behind tag v)) request e i = absurd cc
    answered_low from to (says (NotHere tag)) request e i = absurd cc
    answered_low from to (says (BlockGet q phase at hash)) request e i = absurd cc
    answered_low from to (says (Block q phase bytes)) request e i = absurd cc
    answered_low from to (says (NoBlock q phase)) request e i = absurd cc
    answered_low from to (says (AsksValue tag named p table prefix hash)) request e i = absurd cc
    answered_low from to (says (HasSame tag table prefix)) request e i = absurd cc
    answered_low from to (says (Differ tag table prefix pairs)) request e i = absurd cc
    answered_low from to (says (Tomb number round row)) request e i = absurd cc
    answered_low from to (says (Tombed number round named)) request e i = absurd cc
    answered_low from to (says (Forget table key hash)) request e i = absurd cc
    answered_low from to (shows v) request e i = absurd cc

-- ---- steps

sent_now : {R L : Type 0} (w : World R L) (n : ℕ) (posts : List (Post R L)) → AllByRecursion (λ (x : Sent R L). x.moment ≡ w.time) (sent_by w n posts)
sent_now w n [] = tt
sent_now w n (p ∷ posts) = (refl, sent_now w n posts)

module _ {R L : Type 0} (join : R → R → R) (s : Words R) (k : Layouts L) (trio : L) (trio_roles : List Role → List Role) where
  module _ (w : World R L) (held : (n : ℕ) → AllByRecursion (HoldsSent w.messages) (w.nodes n).calls) where
    one_held : (n : ℕ) (x : Node R L) → AllByRecursion (HoldsSent w.messages) x.calls → (i : ℕ) → AllByRecursion (HoldsSent w.messages) (unwrap_or (only n x i) (w.nodes i)).calls
    one_held n x h i = elim (i == n) as (λ b. AllByRecursion (HoldsSent w.messages) (unwrap_or (cond b (Some x) None) (w.nodes i)).calls) [ true ↦ h | false ↦ held i ]

    closed_held : (n q : ℕ) → AllByRecursion (HoldsSent w.messages) (closed q (w.nodes n)).calls
    closed_held n q = all_filter (HoldsSent w.messages) (λ (c : Call R). cond (c.request == q) false true) (w.nodes n).calls (held n)

  module _ {A C : Type 0} (g : Asks) (w : World R L) (sound : origin.IsSound join s AnyRow AnyBlock g w) (held : (n : ℕ) → AllByRecursion (HoldsSent w.messages) (w.nodes n).calls) where
    -- after these effects requests hold, and phases gave, what came; and messages are of now
    pub record IsGood (e : Effects R L A C) : Type 0 where
      pub calls : (n : ℕ) → AllByRecursion (HoldsSent w.messages) (changed e.nodes w.nodes n).calls
      pub reads : AllByRecursion (Gives w.messages join s e.ends) e.reads
      pub sends : AllByRecursion (λ (x : Sent R L). x.moment ≡ w.time) e.sends

    by_test : (b : Bool) (d e : Effects R L A C) → IsGood d → IsGood e → IsGood (cond b d e)
    by_test true d e f h = f
    by_test false d e f h = h

    -- requests change, and nothing is sent or given
    nodes_good : (e : Effects R L A C) → ((n : ℕ) → AllByRecursion (HoldsSent w.messages) (changed e.nodes w.nodes n).calls) → e.reads ≡ [] → e.sends ≡ [] → IsGood e
    nodes_good e calls reads sends = record { calls = calls; reads = subst (AllByRecursion (Gives w.messages join s e.ends)) (sym reads) tt; sends = subst (AllByRecursion (λ (x : Sent R L). x.moment ≡ w.time)) (sym sends) tt }

    one_good : (e : Effects R L A C) (n : ℕ) (x : Node R L) → AllByRecursion (HoldsSent w.messages) x.calls → e.nodes ≡ only n x → e.reads ≡ [] → e.sends ≡ [] → IsGood e
    one_good e n x h nodes = nodes_good e (λ i. subst (λ (f : ℕ → Option (Node R L)). AllByRecursion (HoldsSent w.messages) (unwrap_or (f i) (w.nodes i)).calls) (sym nodes) (one_held w held n x h i))

    refused : (r : Refusal C) → IsGood (refusal w r)
    refused r = nodes_good (refusal w r) held refl refl

    nothing_good : IsGood (nothing w)
    nothing_good = nodes_good (nothing w) held refl refl

    did_good : (n : ℕ) (d : Did R L) → IsTraced w.messages join s d → IsGood (did w n d)
    did_good n d h = record { calls = one_held w held n d.node h.calls; reads = h.reads; sends = sent_now w n d.posts }

    received_good : (m : ℕ) (e : Effects R L A C) → IsGood e → IsGood (received m e)
    received_good m e h = record { calls = h.calls; reads = h.reads; sends = h.sends }

    worded_good : (e : Effects R L A C) (told : Told) → IsGood e → IsGood (record e { words = told })
    worded_good e told h = record { calls = h.calls; reads = h.reads; sends = h.sends }

    acting_good : (n : ℕ) (b : Bool) (action : Action) → IsGood (acting join s k trio trio_roles w n b (acts join s k n (clock w n) (w.nodes n) action))
    acting_good n b action =
        let a = acts join s k n (clock w n) (w.nodes n) action in
        by_test b (refusal w NotMember) _ (refused NotMember) (worded_good (did w n a.did) _ (did_good n a.did (acts_traced w.messages join s (w.nodes n) (held n) k n (clock w n) action)))

    message_good : (f : Sent R L → Effects R L A C) (o : Option (Sent R L)) (mark : Option Mark) → ((x : Sent R L) → o ≡ Some x → IsGood (f x)) → IsGood (at_message w f o mark)
    message_good f None mark h = refused NoSuchMessage
    message_good f (Some x) None h = refused NoSuchMessage
    message_good f (Some x) (Some mark) h = by_test mark.is_lost (refusal w Lost) (f x) (refused Lost) (h x refl)

    expires_good : (q : ℕ) (o : Option Request) → IsGood (expires w q o)
    expires_good q None = refused NoSuchRequest
    expires_good q (Some r) = by_test r.is_open _ (refusal w AlreadyEnded) (one_good _ r.coordinator (closed q (w.nodes r.coordinator)) (closed_held w held r.coordinator q) refl refl refl) (refused AlreadyEnded)

    closing_good : (q : ℕ) (o : Option Request) → IsGood (closing w q o)
    closing_good q None = nothing_good
    closing_good q (Some r) = by_test r.is_open _ (nothing w) (one_good _ r.coordinator (closed q (w.nodes r.coordinator)) (closed_held w held r.coordinator q) refl refl refl) nothing_good

    opening_good : (n : ℕ) → IsGood (opening join s k trio trio_roles w n)
    opening_good n =
        by_test (is_member_at k w n) _ (refusal w NotMember)
        (one_good _ n (opened (suc (length w.requests)) (newest k.reading (w.nodes n).view) (w.nodes n)) (record { some = omega arith; holds = tt }, held n) refl refl refl) (refused NotMember)

    begun_good : (n : ℕ) (phase : Phase R) (o : Option (Call R)) → IsGood (begun join s k trio trio_roles w n phase o)
    begun_good n phase None = nothing_good
    begun_good n phase (Some c) = did_good n _ (begins_traced w.messages join s (w.nodes n) (held n) k w.kept c phase)

    beginning_good : (q : ℕ) (phase : Phase R) (o : Option Request) → IsGood (beginning join s k trio trio_roles w q phase o)
    beginning_good q phase None = nothing_good
    beginning_good q phase (Some r) = by_test r.is_open _ (nothing w) (begun_good r.coordinator phase (call_at (w.nodes r.coordinator).calls q)) nothing_good

    trio_good : IsGood (trio_applies join s k trio trio_roles w)
    trio_good =
        nodes_good (trio_applies join s k trio trio_roles w)
        (λ n. elim (is_among n (k.reading.members trio)) as (λ b. AllByRecursion (HoldsSent w.messages) (unwrap_or (cond b (Some (appends k (w.nodes n) trio)) None) (w.nodes n)).calls) [ true ↦ held n | false ↦ held n ]) refl refl

    chosen_good : (n version : ℕ) (choice : Choice L A C) → IsGood (chosen join s k trio trio_roles w n version choice)
    chosen_good n version (none_given r) = refused r
    chosen_good n version (given l shown) = one_good _ n (appends k (w.nodes n) l) (held n) refl refl refl

    applies_good : (n : ℕ) (choice : Choice L A C) → IsGood (applies_at join s k trio trio_roles w n choice)
    applies_good n choice =
        let after = suc (newest k.reading (w.nodes n).view) in
        by_test (leb 1 w.applied && not (is_member_at k w n)) (refusal w NotMember) _ (refused NotMember)
        (by_test (leb after w.applied) (refusal w (VersionTaken after)) _ (refused (VersionTaken after))
        (by_test (leb most_versions w.applied) (refusal w VersionLimit) _ (refused VersionLimit) (chosen_good n after choice)))

    pub step_good : (step : Step R) (choice : Choice L A C) → IsGood (effects join s k trio trio_roles w step choice)
    step_good Trio choice = by_test (leb 1 w.applied) (refusal w (VersionTaken 1)) _ (refused (VersionTaken 1)) trio_good
    step_good (Stage n role) choice = nodes_good _ held refl refl
    step_good (Spread r) choice = nodes_good _ held refl refl
    step_good (Apply n) choice = applies_good n choice
    step_good (Tick ms) choice = nodes_good _ held refl refl
    step_good (Skew n ms) choice = nodes_good _ held refl refl
    step_good (Deliver m) choice =
        message_good _ (numbered w.messages m) (numbered w.marks m)
        (λ x e. received_good m _ (did_good x.to _
        (receives_traced w.messages join s (w.nodes x.to) (held x.to) k g (length w.requests) x.to (sound.nodes x.to) x (all_numbered (Has w.messages) w.messages m x (each w.messages) e) x.to (clock w x.to) x.from x.packet refl
        (all_numbered (IsSent join s AnyRow AnyBlock g) w.messages m x sound.messages e))))
    step_good (Lose m) choice = message_good _ (numbered w.messages m) (numbered w.marks m) (λ x e. nodes_good _ held refl refl)
    step_good (Expire q) choice = expires_good q (numbered w.requests q)
    step_good (Restart n) choice = one_good _ n (restarts (w.nodes n)) tt refl refl refl
    step_good (Gossip from to) choice = did_good from (record (quiet (w.nodes from)) { posts = record { to = to; packet = shows (w.nodes from).view } ∷ [] }) (record { calls = held from; reads = tt })
    step_good (Ack n) choice = acting_good n (has_none k (w.nodes n).view) RaiseAck
    step_good (Syncs n) choice = acting_good n (has_none k (w.nodes n).view) GoOn
    step_good (SyncAck n) choice = acting_good n (has_none k (w.nodes n).view) RaiseSyncAck
    step_good (Clean n) choice = acting_good n (has_none k (w.nodes n).view) CleanUp
    step_good (Work n) choice = acting_good n (has_none k (w.nodes n).view) WorkOff
    step_good (Repair n) choice = acting_good n (not (is_member_at k w n)) Mend
    step_good (Collect n) choice = acting_good n (has_none k (w.nodes n).view) Gather
    step_good (Open n) choice = opening_good n
    step_good (Begin q phase) choice = beginning_good q phase (numbered w.requests q)
    step_good (Close q) choice = closing_good q (numbered w.requests q)

-- ---- runs

module _ {R L : Type 0} {join : R → R → R} {s : Words R} (laws : Laws join s) (k : Layouts L) (trio : L) (trio_roles : List Role → List Role) where
  -- a world of a run whose requests began at these moments
  pub record IsAt (moments : List ℕ) (w : World R L) : Type 0 where
    pub stands : Stands (any_rules laws) AnyBlock k trio trio_roles w
    pub held : (n : ℕ) → AllByRecursion (HoldsSent w.messages) (w.nodes n).calls
    pub count : length moments ≡ length w.requests
    pub past : AllByRecursion (λ (t : ℕ). t ≤ w.time) moments
    pub sent : AllByRecursion (λ (x : Sent R L). IsSinceAny moments x.moment (answered x.packet)) w.messages

  empty_at : IsAt [] empty
  empty_at = record { stands = empty_stands (any_rules laws) AnyBlock k trio trio_roles; held = λ n. tt; count = refl; past = tt; sent = tt }

  row_grows : (messages more : List (Sent R L)) (request : ℕ) (o : Option R) → CameAnswer messages request o → CameAnswer (messages ++ more) request o
  row_grows messages more request None c = tt
  row_grows messages more request (Some r) c = record { message = c.message; there = has_left messages more c.message c.there; phase = c.phase; is = c.is }

  call_grows : (messages more : List (Sent R L)) (c : Call R) → HoldsSent messages c → HoldsSent (messages ++ more) c
  call_grows messages more c h = record { some = h.some; holds = by_present c.present h.holds }
    where
      by_present : (p : Present R) → Holds messages c.request p → Holds (messages ++ more) c.request p
      by_present resting i = tt
      by_present (asking q answers) i = all_weaker _ _ (λ a j. row_grows messages more c.request a.1 j) answers i
      by_present (scanning q answers) i = all_weaker _ _ (λ a j. record { message = j.message; there = has_left messages more j.message j.there; phase = j.phase; is = j.is }) answers i
      by_present (storing rows slots) i = tt
      by_present (fetching hash) i = tt

  now_all : (w : World R L) (opens : List Request) → AllByRecursion (λ (t : ℕ). t ≤ w.time) (map (λ (r : Request). w.time) opens)
  now_all w [] = tt
  now_all w (r ∷ opens) = (omega arith, now_all w opens)

  module _ {A C : Type 0} (partitions : ℕ) where
    next_at : (moments : List ℕ) (w : World R L) (m : Move R L A C) → IsAt moments w → IsStep s partitions m.step → (does join s k trio trio_roles w m).is_spelled ≡ true →
        IsAt (moments_after moments w (does join s k trio trio_roles w m)) (next join s k trio trio_roles w m)
    next_at moments w m a step spelled =
        let e = does join s k trio trio_roles w m in
        let after = moments_after moments w e in
        let st = stands_next (any_rules laws) AnyBlock k trio trio_roles partitions w m a.stands (λ n. all_any (w.nodes n).blocks) (all_any (stored_by m.step)) step spelled in
        let good = step_good join s k trio trio_roles a.stands.asks w a.stands.sound a.held m.step m.choice in
        let more = map (λ (r : Request). w.time) e.opens in
        let one = length-append moments more in
        let two = length-map e.opens (λ (r : Request). w.time) in
        let three : length (shut w.requests e.closes ++ e.opens) ≡ length (shut w.requests e.closes) + length e.opens = length-append (shut w.requests e.closes) e.opens in
        let four : length (shut w.requests e.closes) ≡ length w.requests = length_shut w.requests e.closes in
        let was = a.count in
        let count : length after ≡ length (shut w.requests e.closes ++ e.opens) = omega (arith, one, two, three, four, was) in
        let now : AllByRecursion (λ (t : ℕ). t ≤ w.time) after = all_append (λ (t : ℕ). t ≤ w.time) moments more a.past (now_all w e.opens) in
        let new = (all_parts (IsSent join s AnyRow AnyBlock st.asks) w.messages e.sends st.sound.messages).1 in
        record {
          stands = st;
          held = λ n. all_weaker (HoldsSent w.messages) (HoldsSent (w.messages ++ e.sends)) (call_grows w.messages e.sends) (changed e.nodes w.nodes n).calls (good.calls n);
          count = count;
          past = all_weaker (λ (t : ℕ). t ≤ w.time) (λ (t : ℕ). t ≤ w.time + e.passes) (λ t low. omega (arith, low)) after now;
          sent = all_append (λ (x : Sent R L). IsSinceAny after x.moment (answered x.packet)) w.messages e.sends
              (all_weaker (λ (x : Sent R L). IsSinceAny moments x.moment (answered x.packet)) (λ (x : Sent R L). IsSinceAny after x.moment (answered x.packet)) (λ x i. since_later moments more x.moment (answered x.packet) i) w.messages a.sent)
              (all_both (λ (x : Sent R L). x.moment ≡ w.time) (IsSent join s AnyRow AnyBlock st.asks) (λ (x : Sent R L). IsSinceAny after x.moment (answered x.packet))
              (λ x moment i. since_now st.asks (length (shut w.requests e.closes ++ e.opens)) st.sound.later after count w.time now x moment i) e.sends good.sends new);
        }
      where
        since_now : (g : Asks) (count : ℕ) → ((n request phase : ℕ) → count < request → g n request phase ≡ None) → (after : List ℕ) → length after ≡ count → (time : ℕ) → AllByRecursion (λ (t : ℕ). t ≤ time) after → (x : Sent R L) → x.moment ≡ time → IsSent join s AnyRow AnyBlock g x → IsSinceAny after x.moment (answered x.packet)
        since_now g count later after is time now x moment i = by_answered (answered x.packet) refl
          where
            by_answered : (o : Option ℕ) → answered x.packet ≡ o → IsSinceAny after x.moment o
            by_answered None e = tt
            by_answered (Some request) e =
                let low = answered_low join s g count later x.from x.to x.packet request e i in
                record { begun = omega (arith, low, is); since = λ began f. (let early = all_numbered (λ (t : ℕ). t ≤ time) after request began now f in omega (arith, early, moment)) }

    pub run_at : (moments : List ℕ) (w : World R L) (ms : List (Move R L A C)) → IsAt moments w → IsRun join s k trio trio_roles partitions w ms → IsAt (moments_over join s k trio trio_roles moments w ms) (run join s k trio trio_roles w ms)
    run_at moments w [] a is = a
    run_at moments w (m ∷ ms) a is = run_at (moments_after moments w (does join s k trio trio_roles w m)) (next join s k trio trio_roles w m) ms (next_at moments w m a is.0 is.2) is.3

    pub from_empty : (ms : List (Move R L A C)) → IsRun join s k trio trio_roles partitions empty ms → IsAt (moments_over join s k trio trio_roles [] empty ms) (run join s k trio trio_roles empty ms)
    from_empty ms is = run_at [] empty ms empty_at is
