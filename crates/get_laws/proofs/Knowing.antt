-- What each act keeps of a state that knows its requests.
use Rattle.std.proofs.Common.{◌≡◌, ◌≤◌, ℕ, zero, suc, ◌-◌, Bool, true, false, not, ◌&&◌, leb, ◌==◌, cond, Option, Some, None, List, [], ◌∷◌, ◌++◌, length, slice_set, if◌then◌else◌, refl, sym, ap, ◌∙◌, subst, arith, append-nil, length-append}
use Rattle.std.specs.Prelude.{⊤}
use Rattle.std.specs.List.{AllByRecursion}
use Rattle.std.proofs.lemmas.List.{length-set}
use Rattle.crdt_core.proofs.Each.{all_append, all_weaker}
use Rattle.crdt_rows.specs.declared.any_row.AnyRow.{AnyRow}
use Rattle.crdt_rows.specs.AnyRow.{any_join}
use Rattle.layout_roles.specs.declared.layout.Layout.{Layout}
use Rattle.object_schema.specs.Schema.{words}
use Rattle.wire_messages.specs.declared.phase.Phase.{Phase}
use Rattle.wire_messages.specs.declared.phase.PhaseEnd.{PhaseEnd}
use Rattle.view_model.specs.View.{newest}
use Rattle.cluster_machine.specs.declared.step.Step.{Step}
use Rattle.cluster_machine.specs.declared.step.Step.TheVariants as step
use Rattle.cluster_machine.specs.declared.step.Refusal.TheVariants.{NotMember, NoSuchBucket, VersionTaken, VersionLimit}
use Rattle.cluster_machine.specs.Layouts.{layouts}
use Rattle.cluster_machine.specs.Choices.{Decision}
use Rattle.cluster_machine.specs.Node.{Call, Ended}
use Rattle.cluster_machine.specs.World.{Sent, Mark, Request, clock, is_member_at, numbered, undelivered}
use Rattle.cluster_machine.specs.Step.{given, none_given, most_versions, refusal as refuses, at_message, expires, closing, begun, beginning, chosen, applies_at, shut}
use Rattle.cluster_machine.specs.Trio.{trio, stage_trio}
use Rattle.cluster_machine.specs.Worlds.{Done as Effect, installs as install}
use Rattle.cluster_machine.proofs.Closing.{length_shut}
use Rattle.machine_origins.proofs.Places.{numbered_within}
use Rattle.flow_model.specs.declared.order.Order.{Order}
use Rattle.flow_model.specs.declared.flow.Flow.{Flow}
use Rattle.flow_model.specs.declared.flow.FlowStep.{FlowStep}
use Rattle.flow_model.specs.declared.flow.FlowStep.TheVariants.{More, Need, Wait, End}
use Rattle.flow_model.specs.declared.flow.FlowEnd.{FlowEnd}
use Rattle.flow_model.specs.Flow.{started}
use Rattle.flow_model.specs.Next.{next}
use Rattle.flow_model.specs.Streams as stream
use Rattle.store_model.specs.Orders.{buckets_of}
use Rattle.store_model.specs.Run.{World, Moving, State, start, Asked, Draw, Saw, Outcome, silent, refusal, plainly, effect, doing, are_buckets, phases, new_request, opened, begins, draws_of, takes, follows, follow, goes_on, delivers, then_drains, drains, hears, heard_in, heard, fills_at}
use Rattle.store_model.specs.Acts.{Act, moves, installs, asks, delivery, drain, forgets, takes as takes_end, without_end, adds, cuts, feeds, keeps, gives_up, acted, after_acts, IsOuter, IsLawfulAct, AreLawfulActs}
use Rattle.get_laws.specs.OnTheWay.{KnowsRequests}

-- ---- no step but one opens a request

abbrev pub IsNoOpen : Step AnyRow → Type 0
IsNoOpen (step.Open n) = ⊥
IsNoOpen st = ⊤

abbrev OpensNone : Effect AnyRow → Type 0
OpensNone e = e.opens ≡ []

none_either : (b : Bool) (d e : Effect AnyRow) → OpensNone d → OpensNone e → OpensNone (cond b d e)
none_either true d e h k = h
none_either false d e h k = k

module _ (w : World) where
  none_at_message : (f : Sent AnyRow Layout → Effect AnyRow) → ((sent : Sent AnyRow Layout) → OpensNone (f sent)) → (sent : Option (Sent AnyRow Layout)) (mark : Option Mark) → OpensNone (at_message w f sent mark)
  none_at_message f h None mark = refl
  none_at_message f h (Some sent) None = refl
  none_at_message f h (Some sent) (Some mark) = none_either mark.is_lost _ (f sent) refl (h sent)

  none_expires : (q : ℕ) (r : Option Request) → OpensNone (expires w q r)
  none_expires q None = refl
  none_expires q (Some r) = none_either r.is_open _ _ refl refl

  none_closes : (q : ℕ) (r : Option Request) → OpensNone (closing w q r)
  none_closes q None = refl
  none_closes q (Some r) = none_either r.is_open _ _ refl refl

  none_begun : (n : ℕ) (phase : Phase AnyRow) (c : Option (Call AnyRow)) → OpensNone (begun any_join words layouts trio stage_trio w n phase c)
  none_begun n phase None = refl
  none_begun n phase (Some c) = refl

  none_begins : (q : ℕ) (phase : Phase AnyRow) (r : Option Request) → OpensNone (beginning any_join words layouts trio stage_trio w q phase r)
  none_begins q phase None = refl
  none_begins q phase (Some r) = none_either r.is_open _ _ (none_begun r.coordinator phase _) refl

  none_chosen : (n version : ℕ) (choice : Decision) → OpensNone (chosen any_join words layouts trio stage_trio w n version choice)
  none_chosen n version (given l shown) = refl
  none_chosen n version (none_given reason) = refl

  none_applies : (n : ℕ) (choice : Decision) → OpensNone (applies_at any_join words layouts trio stage_trio w n choice)
  none_applies n choice =
      let version : ℕ = suc (newest layouts.reading (w.nodes n).view) in
      let taken : Bool = leb version w.applied in
      let full : Bool = leb most_versions w.applied in
      let made : Effect AnyRow = chosen any_join words layouts trio stage_trio w n version choice in
      let last : Effect AnyRow = cond full (refuses w VersionLimit) made in
      let later : Effect AnyRow = cond taken (refuses w (VersionTaken version)) last in
      none_either (leb 1 w.applied && not (is_member_at layouts w n)) (refuses w NotMember) later refl
      (none_either taken (refuses w (VersionTaken version)) last refl (none_either full (refuses w VersionLimit) made refl (none_chosen n version choice)))

opens_none : (s : State) (st : Step AnyRow) (choice : Decision) → IsNoOpen st → OpensNone (effect s (record { step = st; choice = choice }))
opens_none s step.Trio choice h = none_either _ _ _ refl refl
opens_none s (step.Role n role) choice h = refl
opens_none s (step.Redundancy wanted) choice h = refl
opens_none s (step.Apply n) choice h = none_applies s.world n choice
opens_none s (step.Tick ms) choice h = refl
opens_none s (step.Skew n ms) choice h = refl
opens_none s (step.Deliver m) choice h = none_at_message s.world _ (λ sent. refl) (numbered s.world.messages m) (numbered s.world.marks m)
opens_none s (step.Lose m) choice h = none_at_message s.world _ (λ sent. refl) (numbered s.world.messages m) (numbered s.world.marks m)
opens_none s (step.Expire q) choice h = none_expires s.world q (numbered s.world.requests q)
opens_none s (step.Restart n) choice h = refl
opens_none s (step.Gossip from to) choice h = refl
opens_none s (step.Ack n) choice h = none_either _ _ _ refl refl
opens_none s (step.Sync n) choice h = none_either _ _ _ refl refl
opens_none s (step.SyncAck n) choice h = none_either _ _ _ refl refl
opens_none s (step.Clean n) choice h = none_either _ _ _ refl refl
opens_none s (step.Work n) choice h = none_either _ _ _ refl refl
opens_none s (step.Repair n) choice h = none_either _ _ _ refl refl
opens_none s (step.Collect n) choice h = none_either _ _ _ refl refl
opens_none s (step.Phase q phase) choice h = none_begins s.world q phase (numbered s.world.requests q)
opens_none s (step.Close q) choice h = none_closes s.world q (numbered s.world.requests q)
opens_none s (step.Open n) choice h = absurd h

-- how many requests a world has
abbrev pub count : State → ℕ
count s = length s.world.requests

count_after : (s : State) (e : Effect AnyRow) → OpensNone e → length (shut s.world.requests e.closes ++ e.opens) ≡ count s
count_after s e none = ap (λ (rs : List Request). length (shut s.world.requests e.closes ++ rs)) none ∙ (ap (λ (rs : List Request). length rs) (append-nil (shut s.world.requests e.closes)) ∙ length_shut s.world.requests e.closes)

pub count_stays : (s : State) (m : Moving) → IsNoOpen m.step → count (doing s m) ≡ count s
count_stays s m h = count_after s (effect s m) (opens_none s m.step m.choice h)

-- ---- what is kept

-- what was seen, and which ends wait, is of requests up to this number
abbrev AreUpTo : ℕ → List Saw → List (ℕ × FlowEnd) → Type 0
AreUpTo n saw ends = AllByRecursion (λ (e : Saw). e.request ≤ n) saw × AllByRecursion (λ (e : ℕ × FlowEnd). e.0 ≤ n) ends

further : (n m : ℕ) → n ≤ m → (saw : List Saw) (ends : List (ℕ × FlowEnd)) → AreUpTo n saw ends → AreUpTo m saw ends
further n m low saw ends h =
    (all_weaker _ (λ (e : Saw). e.request ≤ m) (λ e up. omega (arith, up, low)) saw h.0, all_weaker _ (λ (e : ℕ × FlowEnd). e.0 ≤ m) (λ e up. omega (arith, up, low)) ends h.1)

knows : (t : State) (n : ℕ) → length t.asked ≡ n → count t ≡ n → AreUpTo n t.saw t.ends → KnowsRequests t
knows t n asked requests up =
    let low : n ≤ length t.asked = omega (arith, asked) in
    let all = further n (length t.asked) low t.saw t.ends up in
    record { lengths = asked ∙ sym requests; saw = all.0; ends = all.1 }

module _ (s : State) (known : KnowsRequests s) where
  are : AreUpTo (length s.asked) s.saw s.ends
  are = (known.saw, known.ends)

  -- nothing but the world changes, and it has as many requests
  world_knows : (t : State) → t.asked ≡ s.asked → t.saw ≡ s.saw → t.ends ≡ s.ends → count t ≡ count s → KnowsRequests t
  world_knows t asked saw ends requests =
      knows t (length s.asked) (ap (λ (a : List Asked). length a) asked) (requests ∙ sym known.lengths)
      (subst (λ (l : List Saw). AreUpTo (length s.asked) l t.ends) (sym saw) (subst (λ (l : List (ℕ × FlowEnd)). AreUpTo (length s.asked) s.saw l) (sym ends) are))

  module _ (q : ℕ) (a : Asked) (is_there : q ≤ length s.asked) where
    set_length : (flow : Option Flow) → length (slice_set s.asked (q - 1) (record a { flow = flow })) ≡ length s.asked
    set_length flow = length-set s.asked (q - 1) (record a { flow = flow })

    pub takes_know : (draws : List Draw) (st : FlowStep) → KnowsRequests (takes s q a draws st).state
    takes_know draws (More flow phase) =
        let t : State = (takes s q a draws (More flow phase)).state in knows t (length s.asked) (set_length (Some flow)) (count_stays s (phases q phase) tt ∙ sym known.lengths) are
    takes_know draws (Need flow wanted) = let t : State = (takes s q a draws (Need flow wanted)).state in knows t (length s.asked) (set_length (Some flow)) (sym known.lengths) are
    takes_know draws (Wait flow) = let t : State = (takes s q a draws (Wait flow)).state in knows t (length s.asked) (set_length (Some flow)) (sym known.lengths) are
    takes_know draws (End end) =
        let t : State = (takes s q a draws (End end)).state in
        knows t (length s.asked) (set_length None) (count_stays s (plainly (step.Close q)) tt ∙ sym known.lengths) (known.saw, all_append (λ (e : ℕ × FlowEnd). e.0 ≤ length s.asked) s.ends ((q, end) ∷ []) known.ends (is_there, tt))

-- a phase of one of the requests ended
sees_knows : (s : State) (q : ℕ) (end : PhaseEnd AnyRow) → KnowsRequests s → q ≤ length s.asked → KnowsRequests (record s { saw = record { request = q; end = end } ∷ s.saw })
sees_knows s q end known is_there = record { lengths = known.lengths; saw = (is_there, known.saw); ends = known.ends }

follows_know : (s : State) (q : ℕ) (a : Asked) (end : PhaseEnd AnyRow) (flow : Option Flow) → KnowsRequests s → q ≤ length s.asked → KnowsRequests (follows s q a end flow).state
follows_know s q a end None known is_there = known
follows_know s q a end (Some flow) known is_there =
    let now = clock s.world a.node in
    takes_know (record s { saw = record { request = q; end = end } ∷ s.saw }) (sees_knows s q end known is_there) q a is_there (draws_of s q flow.block flow.stage end now) (next flow end now)

follow_knows : (s : State) (q : ℕ) (asked : Option Asked) (end : PhaseEnd AnyRow) → numbered s.asked q ≡ asked → KnowsRequests s → KnowsRequests (follow s q asked end).state
follow_knows s q None end at known = known
follow_knows s q (Some a) end at known = follows_know s q a end a.flow known (numbered_within s.asked q a at)

goes_on_knows : (s : State) (ends : List (Ended AnyRow)) → KnowsRequests s → KnowsRequests (goes_on s ends).state
goes_on_knows s [] known = known
goes_on_knows s (e ∷ es) known = follow_knows s e.request (numbered s.asked e.request) e.how refl known

pub delivers_know : (s : State) (m : ℕ) → KnowsRequests s → KnowsRequests (delivers s m).state
delivers_know s m known =
    let d : Moving = plainly (step.Deliver m) in goes_on_knows (doing s d) (effect s d).ends (world_knows s known (doing s d) refl refl refl (count_stays s d tt))

drains_know : (n : ℕ) (s : State) → KnowsRequests s → KnowsRequests (drains n s).state
drains_know zero s known = known
drains_know (suc n) s known =
    elim (undelivered s.world) as (λ o. KnowsRequests (elim o as (λ o. Outcome) [ None ↦ silent s | Some m ↦ let o = delivers s m in then_drains o (drains n o.state) ]).state) [
      | None ↦ known
      | Some m ↦ drains_know n (delivers s m).state (delivers_know s m known)
    ]

-- ---- acts

-- a request more
opens_one : (s : State) (n : ℕ) → is_member_at layouts s.world n ≡ true → count (doing s (plainly (step.Open n))) ≡ suc (count s)
opens_one s n member =
    let more : Request = record { coordinator = n; is_open = true } in
    let opens : (effect s (plainly (step.Open n))).opens ≡ more ∷ [] = rw member refl in
    let closes : (effect s (plainly (step.Open n))).closes ≡ [] = rw member refl in
    rw member (omega (arith, length-append s.world.requests (more ∷ [])))

opened_knows : (s : State) (n : ℕ) (o : Order) → is_member_at layouts s.world n ≡ true → KnowsRequests s → KnowsRequests (opened s n o).state
opened_knows s n o member known =
    let q : ℕ = suc (count s) in
    let first = started o q s.block in
    let here : State = doing s (plainly (step.Open n)) in
    let more : Asked = new_request n o first.0 in
    let grown : length (s.asked ++ more ∷ []) ≡ suc (length s.asked) = omega (arith, length-append s.asked (more ∷ [])) in
    let requests : count (doing here (phases q first.1)) ≡ suc (length s.asked) = count_stays here (phases q first.1) tt ∙ (opens_one s n member ∙ ap suc (sym known.lengths)) in
    knows (opened s n o).state (suc (length s.asked)) grown requests (further (length s.asked) (suc (length s.asked)) (omega arith) s.saw s.ends (are s known))

begins_know : (s : State) (n : ℕ) (o : Order) → KnowsRequests s → KnowsRequests (begins s n o).state
begins_know s n o known =
    elim (is_member_at layouts s.world n) as (λ b. is_member_at layouts s.world n ≡ b → KnowsRequests (if b then (if are_buckets s.buckets (buckets_of o) then opened s n o else refusal s NoSuchBucket) else refusal s NotMember).state) [
      | true ↦ λ member. elim (are_buckets s.buckets (buckets_of o)) as (λ b. KnowsRequests (if b then opened s n o else refusal s NoSuchBucket).state) [
        | true ↦ opened_knows s n o member known
        | false ↦ known
      ]
      | false ↦ λ not. known
    ] refl

all_but_one : (P : ℕ × FlowEnd → Type 0) (ends : List (ℕ × FlowEnd)) (q : ℕ) → AllByRecursion P ends → AllByRecursion P (without_end ends q)
all_but_one P [] q h = tt
all_but_one P (e ∷ es) q h =
    elim (e.0 == q) as (λ b. AllByRecursion P (cond b es (e ∷ without_end es q))) [
      | true ↦ h.1
      | false ↦ (h.0, all_but_one P es q h.1)
    ]

outer_opens_none : (st : Step AnyRow) → IsOuter st → IsNoOpen st
outer_opens_none (step.Open n) outer = outer
outer_opens_none st outer = tt

-- the client of a streamed upload was heard
heard_knows : (s : State) (q : ℕ) (says : Flow → stream.Step) (asked : Option Asked) → numbered s.asked q ≡ asked → KnowsRequests s → KnowsRequests (heard s q says asked).state
heard_knows s q says None at known = known
heard_knows s q says (Some a) at known = by_flow a.flow
  where
    by_next : (next : stream.Step) → KnowsRequests (hears s q a next).state
    by_next None = known
    by_next (Some next) = takes_know s known q a (numbered_within s.asked q a at) [] (More next.0 next.1)

    by_flow : (flow : Option Flow) → KnowsRequests (heard_in s q says a flow).state
    by_flow None = known
    by_flow (Some flow) = by_next (says flow)

pub act_knows : (s : State) (a : Act) → IsLawfulAct s a → KnowsRequests s → KnowsRequests (acted s a).state
act_knows s (moves m) lawful known = world_knows s known (acted s (moves m)).state refl refl refl (count_stays s m (outer_opens_none m.step lawful.0))
act_knows s (installs first) lawful known = world_knows s known (acted s (installs first)).state refl refl refl (count_after s (install any_join words s.world first) refl)
act_knows s (asks n o) lawful known = begins_know s n o known
act_knows s (delivery m) lawful known = delivers_know s m known
act_knows s (drain n) lawful known = drains_know n s known
act_knows s forgets lawful known = world_knows s known (acted s forgets).state refl refl refl refl
act_knows s (takes_end q) lawful known = record { lengths = known.lengths; saw = known.saw; ends = all_but_one _ s.ends q known.ends }
act_knows s (adds name) lawful known = world_knows s known (acted s (adds name)).state refl refl refl refl
act_knows s (cuts block) lawful known = world_knows s known (acted s (cuts block)).state refl refl refl refl
act_knows s (feeds q bytes) lawful known = heard_knows s q (λ flow. stream.fed flow bytes) (numbered s.asked q) refl known
act_knows s (keeps q) lawful known =
    heard_knows (record s { draws = fills_at s q (numbered s.asked q) ++ s.draws }) q stream.finished (numbered s.asked q) refl (record { lengths = known.lengths; saw = known.saw; ends = known.ends })
act_knows s (gives_up q) lawful known = heard_knows s q stream.given_up (numbered s.asked q) refl known

pub start_knows : KnowsRequests start
start_knows = record { lengths = refl; saw = tt; ends = tt }

pub acts_know : (s : State) (acts : List Act) → AreLawfulActs s acts → KnowsRequests s → KnowsRequests (after_acts s acts)
acts_know s [] lawful known = known
acts_know s (a ∷ acts) lawful known = acts_know (acted s a).state acts lawful.1 (act_knows s a lawful.0 known)
