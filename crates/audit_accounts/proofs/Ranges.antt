-- What deliveries and requests tell in a run within the limits has numbers of the code.
use Rattle.std.proofs.Common.{◌≡◌, ◌≤◌, ◌<◌, ◌+◌, ◌-◌, ◌^◌, inl, inr, ℕ, suc, Bool, true, false, cond, if◌then◌else◌, Option, Some, None, List, [], ◌∷◌, ◌++◌, length, refl, subst, arith, length-append}
use Rattle.std.specs.Prelude.{⊤, slice_set}
use Rattle.std.specs.List.{AllByRecursion}
use Rattle.std.proofs.lemmas.List.Elements.{recursion_from_All}
use Rattle.crdt_core.proofs.Each.{all_append}
use Rattle.layout_roles.specs.declared.layout.Layout.{Layout}
use Rattle.crdt_rows.specs.declared.any_row.AnyRow.{AnyRow}
use Rattle.crdt_rows.specs.declared.object_row.ObjectRow.{ObjectRow}
use Rattle.crdt_rows.specs.AnyRow.{any_join}
use Rattle.object_schema.specs.Schema.{words}
use Rattle.wire_messages.specs.declared.phase.Phase.{Phase}
use Rattle.wire_messages.specs.declared.phase.PhaseEnd.{PhaseEnd}
use Rattle.cluster_machine.specs.declared.applied.Applied.{Applied}
use Rattle.cluster_machine.specs.declared.line.Line.{Line}
use Rattle.cluster_machine.specs.declared.step.Step.TheVariants as step
use Rattle.cluster_machine.specs.declared.step.Refusal.TheVariants.{VersionLimit, NotMember, NoSuchBucket, Lost}
use Rattle.cluster_machine.specs.Layouts.{layouts}
use Rattle.cluster_machine.specs.Node.{Call, Ended}
use Rattle.cluster_machine.specs.Receives.{receives}
use Rattle.cluster_machine.specs.World.{Sent, Mark, numbered, clock, is_member_at}
use Rattle.cluster_machine.specs.Step.{none_given, refusal as step_refusal, received, did, at_message}
use Rattle.cluster_machine.specs.Worlds.{Done as Effect, HasRoom, HaveRoom, does, next}
use Rattle.machine_origins.proofs.Lists.{all_numbered}
use Rattle.machine_origins.proofs.Places.{numbered_set_cases, numbered_push_cases}
use Rattle.machine_origins.proofs.Sound.{IsSent}
use Rattle.machine_limits.specs.Steps.{HasPlace}
use Rattle.machine_limits.proofs.Nodes.{mail_limit, Short}
use Rattle.machine_limits.proofs.Worlds.{WorldFits}
use Rattle.machine_limits.proofs.Moves.{StaysSound, moves}
use Rattle.object_origins.proofs.Shown.{Facts}
use Rattle.limit_rows.specs.Fitting.{Drawn, AreWithin, RowFits, weight}
use Rattle.limit_rows.proofs.Bounded.{rows_bounded}
use Rattle.limit_laws.proofs.Flows.{within_more, grew_same, FlowFits, EndFits}
use Rattle.limit_laws.proofs.Ends.{receives_end}
use Rattle.limit_laws.proofs.States.{AskedFits, StateFits, asked_later}
use Rattle.history_model.specs.declared.record.Kind.{Kind}
use Rattle.flow_model.specs.declared.order.Order.{Order}
use Rattle.flow_model.specs.declared.flow.Stage.{Stage}
use Rattle.flow_model.specs.declared.flow.Stage.TheVariants.{Drawing, Uploading, Receiving, Needing, Aborting, Completing, Looking, Opening, Gathering, Listing}
use Rattle.flow_model.specs.declared.flow.Flow.{Flow}
use Rattle.flow_model.specs.declared.flow.FlowStep.{FlowStep}
use Rattle.flow_model.specs.declared.flow.FlowStep.TheVariants.{More, Need, Wait, End}
use Rattle.flow_model.specs.Flow.{started}
use Rattle.flow_model.specs.Next.{next as next_of}
use Rattle.store_model.specs.Orders.{buckets_of}
use Rattle.store_model.specs.Run.{World, Moving, State, Asked, Draw, Outcome, silent, refusal, plainly, effect, doing, phases, new_request, opened, begins, are_buckets, draws_of, takes, follows, follow, goes_on, delivers}
use Rattle.audit_model.specs.Lines.{IsNumber}
use Rattle.audit_accounts.specs.Saying.{IsKeyedLine}
use Rattle.audit_accounts.proofs.Flows.{IsNext, next_is, started_is}
use Rattle.audit_accounts.proofs.Marks.{marks_named}
use Rattle.audit_accounts.proofs.Worlds.{LineFits, LinesFit, AnswerFits, WorldNamed, IsSmall, step_named, next_named}
use Rattle.audit_accounts.proofs.Views.{views_named}
use Rattle.audit_accounts.proofs.Windows.{WindowFits, receives_fits}
use Rattle.audit_accounts.proofs.Values.{VersionFits, ListFits, StageNumbered, gives_numbers, end_numbers}

-- ---- requests

abbrev pub WaitsNumbered : ℕ → Kind → Option Flow → Type 0
WaitsNumbered most k None = ⊤
WaitsNumbered most k (Some flow) = StageNumbered most k flow.stage

-- each request waits with numbers of the code, and each list has so many rows at most
abbrev pub AreNumbered : ℕ → List Asked → Type 0
AreNumbered most xs = (q : ℕ) (a : Asked) → numbered xs q ≡ Some a → WaitsNumbered most a.kind a.flow

list_later : (most more : ℕ) → most ≤ more → (rows : List ObjectRow) → ListFits most rows → ListFits more rows
list_later most more up rows h = let low = h.1 in (h.0, omega arith)

stage_later : (most more : ℕ) → most ≤ more → (k : Kind) (stage : Stage) → StageNumbered most k stage → StageNumbered more k stage
stage_later most more up k (Drawing name w) h = h
stage_later most more up k (Uploading name version c stored) h = h
stage_later most more up k (Receiving name version coming received) h = h
stage_later most more up k (Needing name version coming received) h = h
stage_later most more up k (Aborting version) h = h
stage_later most more up k (Completing version meta) h = h
stage_later most more up k (Looking name a) h = h
stage_later most more up k (Opening version meta a) h = h
stage_later most more up k (Gathering version meta a left body) h = h
stage_later most more up k (Listing bucket prefix rows) h = (h.0, list_later most more up rows h.1)

waits_later : (most more : ℕ) → most ≤ more → (k : Kind) (o : Option Flow) → WaitsNumbered most k o → WaitsNumbered more k o
waits_later most more up k None h = tt
waits_later most more up k (Some flow) h = stage_later most more up k flow.stage h

pub lists_later : (most more : ℕ) → most ≤ more → (xs : List Asked) → AreNumbered most xs → AreNumbered more xs
lists_later most more up xs h q a at = waits_later most more up a.kind a.flow (h q a at)

set_numbered : (most : ℕ) (xs : List Asked) (q : ℕ) (a : Asked) (flow : Option Flow) → numbered xs q ≡ Some a → WaitsNumbered most a.kind flow → AreNumbered most xs → AreNumbered most (slice_set xs (q - 1) (record a { flow = flow }))
set_numbered most xs q a flow at waits h p x is = elim (numbered_set_cases xs q p a (record a { flow = flow }) x at is) [
  | inl here ↦ subst (λ (y : Asked). WaitsNumbered most y.kind y.flow) here.1 waits
  | inr old ↦ h p x old
]

-- ---- worlds

-- what is known of a world within the limits
pub small_of : Facts → (t k b : ℕ) (v : Drawn) (w : World) → AreWithin t v → k ≤ 27000000000000 → WorldFits any_join words (RowFits v) weight t k b w → WorldNamed k w → IsSmall w
small_of facts t k b v w within top fits named =
    let requests = fits.requests in
    let early = fits.early in
    record {
      views = views_named k w fits.sound fits.applied named;
      marks = λ n. marks_named facts t v within (w.nodes n).accepted (fits.rows.nodes n).accepted;
      most = k;
      top = omega arith;
      items = λ n. (let x = fits.nodes n in let a = x.counted in let c = x.listed in omega arith);
      requests = omega arith;
      begun = λ n. (fits.nodes n).collections;
      calls = λ n. recursion_from_All (λ (c : Call AnyRow). c.request ≤ length w.requests) (w.nodes n).calls (fits.sound.requests n);
    }

-- there is room for the messages that a step sends
pub sent_few : (w : World) (m : Moving) → HasRoom any_join words w m → length w.messages + length (does any_join words w m).sends < 2 ^ 64
sent_few w m room =
    let sends = (does any_join words w m).sends in
    let sum = length-append w.messages sends in
    let few = room.0.0.messages in
    omega arith

-- what came of requests: lines with numbers of the code, and a state that names such
pub record OutNumbered (k most : ℕ) (o : Outcome) : Type 0 where
  pub lines : LinesFit o.lines
  pub named : WorldNamed k o.state.world
  pub lists : AreNumbered most o.state.asked

split_keyed : (a b : List (Line Applied)) → AllByRecursion IsKeyedLine (a ++ b) → AllByRecursion IsKeyedLine b
split_keyed [] b h = h
split_keyed (l ∷ a) b h = split_keyed a b h.1

-- a phase that ended, of a request that was given its number
abbrev EndNumbered : Drawn → Ended AnyRow → Type 0
EndNumbered v e = IsNumber e.request × EndFits v e.how × WindowFits v e.how

both_ends : (count : ℕ) → count < 2 ^ 64 → (v : Drawn) (ends : List (Ended AnyRow)) → AllByRecursion (λ (e : Ended AnyRow). EndFits v e.how) ends → AllByRecursion (λ (e : Ended AnyRow). (e.request ≤ count) × WindowFits v e.how) ends → AllByRecursion (EndNumbered v) ends
both_ends count top v [] h k = tt
both_ends count top v (e ∷ es) h k = let low = k.0.0 in ((omega arith, h.0, k.0.1), both_ends count top v es h.1 k.1)

module _ (facts : Facts) (stays : StaysSound any_join words) where
  module _ (t k b most : ℕ) (v : Drawn) (s : State) (top : k ≤ 27000000000000) (high : most + 2000 < 2 ^ 64) (fits : StateFits t k b v s) (named : WorldNamed k s.world) (lists : AreNumbered most s.asked) where
    abbrev more : ℕ
    more = most + 2000

    abbrev Out : Outcome → Type 0
    Out o = OutNumbered k more o

    now_small : IsSmall s.world
    now_small = small_of facts t k b v s.world fits.within top fits.world named

    lists_now : AreNumbered more s.asked
    lists_now = lists_later most more (omega arith) s.asked lists

    silent_out : OutNumbered k more (silent s)
    silent_out = record { lines = tt; named = named; lists = lists_now }

    takes_numbers : (q : ℕ) (a : Asked) (draws : List Draw) (step' : FlowStep) → numbered s.asked q ≡ Some a → IsNumber q → IsNext VersionFits IsNumber (ListFits more) a.kind step' → HaveRoom any_join words s.world (takes s q a draws step').moves →
        AllByRecursion IsKeyedLine (takes s q a draws step').lines → Out (takes s q a draws step')
    takes_numbers q a draws (More flow phase) at number is room keyed =
        let effects = step_named k k (omega arith) (omega arith) s.world named now_small (step.Phase q phase) (none_given VersionLimit) tt tt tt in
        record { lines = effects.lines (sent_few s.world (phases q phase) room.0); named = next_named k k (omega arith) (omega arith) s.world named now_small (effect s (phases q phase)) effects; lists = set_numbered more s.asked q a (Some flow) at is lists_now }
    takes_numbers q a draws (Need flow wanted) at number is room keyed = record { lines = tt; named = named; lists = set_numbered more s.asked q a (Some flow) at is lists_now }
    takes_numbers q a draws (Wait flow) at number is room keyed = record { lines = tt; named = named; lists = set_numbered more s.asked q a (Some flow) at is lists_now }
    takes_numbers q a draws (End end) at number is room keyed =
        let effects = step_named k k (omega arith) (omega arith) s.world named now_small (step.Close q) (none_given VersionLimit) tt tt tt in
        record { lines = end_numbers more q a.kind end high number is keyed; named = next_named k k (omega arith) (omega arith) s.world named now_small (effect s (plainly (step.Close q))) effects; lists = set_numbered more s.asked q a None at tt lists_now }

  module _ (t k b most : ℕ) (v : Drawn) (s : State) (top : k ≤ 27000000000000) (high : most + 2000 < 2 ^ 64) (fits : StateFits t k b v s) (named : WorldNamed k s.world) (lists : AreNumbered most s.asked) where
    abbrev Then : Outcome → Type 0
    Then o = OutNumbered k (most + 2000) o

    follows_numbers : (q : ℕ) (a : Asked) (end : PhaseEnd AnyRow) (o : Option Flow) → numbered s.asked q ≡ Some a → IsNumber q → WaitsNumbered most a.kind o → elim o as (λ o. Type 0) [ None ↦ ⊤ | Some flow ↦ FlowFits t v flow ] → EndFits v end → WindowFits v end →
        HaveRoom any_join words s.world (follows s q a end o).moves → AllByRecursion IsKeyedLine (follows s q a end o).lines → Then (follows s q a end o)
    follows_numbers q a end None at number waits f h g room keyed = silent_out t k b most v s top high fits named lists
    follows_numbers q a end (Some flow) at number waits f h g room keyed =
        let saw : State = record s { saw = record { request = q; end = end } ∷ s.saw } in
        let so : StateFits t k b v saw = record { within = fits.within; world = fits.world; asked = fits.asked; block = fits.block; marks = fits.marks } in
        let now : ℕ = clock s.world a.node in
        let time = fits.world.time in
        let skew = fits.world.skews a.node in
        let few = fits.within.few in
        let early : now ≤ 100000000000000000 = omega (arith, time, skew, few) in
        let gives = gives_numbers t v fits.within most flow.id now f.id early a.kind flow.stage end waits f.stage h g in
        takes_numbers t k b most v saw top high so named lists q a (draws_of saw q flow.block flow.stage end now) (next_of flow end now) at number
        (next_is VersionFits IsNumber (ListFits most) (ListFits (most + 2000)) (list_later most (most + 2000) (omega arith)) (omega arith) a.kind flow.id flow.block flow.stage end now waits gives) room keyed

    follow_numbers : (q : ℕ) (o : Option Asked) (end : PhaseEnd AnyRow) → numbered s.asked q ≡ o → IsNumber q → EndFits v end → WindowFits v end → HaveRoom any_join words s.world (follow s q o end).moves → AllByRecursion IsKeyedLine (follow s q o end).lines → Then (follow s q o end)
    follow_numbers q None end at number h g room keyed = silent_out t k b most v s top high fits named lists
    follow_numbers q (Some a) end at number h g room keyed = follows_numbers q a end a.flow at number (lists q a at) (all_numbered (AskedFits t v) s.asked q a fits.asked at) h g room keyed

    goes_on_numbers : (ends : List (Ended AnyRow)) → AllByRecursion (EndNumbered v) ends → HaveRoom any_join words s.world (goes_on s ends).moves → AllByRecursion IsKeyedLine (goes_on s ends).lines → Then (goes_on s ends)
    goes_on_numbers [] h room keyed = silent_out t k b most v s top high fits named lists
    goes_on_numbers (e ∷ es) h room keyed =
        follow_numbers e.request (numbered s.asked e.request) e.how refl h.0.0 h.0.1 h.0.2 room keyed

  -- what a delivery ends
  delivery_ends : (t k b : ℕ) (v : Drawn) (s : State) (i : ℕ) → AreWithin t v → WorldFits any_join words (RowFits v) weight t k b s.world → AllByRecursion (EndNumbered v) (effect s (plainly (step.Deliver i))).ends
  delivery_ends t k b v s i within fits = by_message (numbered s.world.messages i) (numbered s.world.marks i) refl
    where
      delivered : Sent AnyRow Layout → Effect AnyRow
      delivered sent = received i (did s.world sent.to (receives any_join words layouts sent.to (clock s.world sent.to) (s.world.nodes sent.to) sent.from sent.packet))

      by_message : (o : Option (Sent AnyRow Layout)) (mark : Option Mark) → numbered s.world.messages i ≡ o → AllByRecursion (EndNumbered v) (at_message s.world delivered o mark).ends
      by_message None mark e = tt
      by_message (Some x) None e = tt
      by_message (Some x) (Some mark) e =
          let count : ℕ = length s.world.requests in
          let requests = fits.requests in
          let early = fits.early in
          let packet = all_numbered (IsSent any_join words (RowFits v) Short fits.asks) s.world.messages i x fits.rows.messages e in
          let one = receives_end facts t v within fits.asks count x.to (s.world.nodes x.to) (fits.rows.nodes x.to) (fits.sound.different x.to) k (fits.nodes x.to) (clock s.world x.to) x.from x.packet packet in
          let two = receives_fits facts t v within fits.asks count x.to (s.world.nodes x.to) (fits.rows.nodes x.to) (clock s.world x.to) x.from x.packet packet in
          elim mark.is_lost as (λ c. AllByRecursion (EndNumbered v) (cond c (step_refusal s.world Lost) (delivered x)).ends) [ true ↦ tt | false ↦ both_ends count (omega arith) v _ one two ]

  -- what a delivery tells, and what its event does
  pub record DeliveryNumbered (m most : ℕ) (o : Outcome) : Type 0 where
    pub answer : AnswerFits o.refused o.words
    pub out : OutNumbered m most o

  pub delivers_numbers : (t k m b most : ℕ) (v : Drawn) (s : State) (i : ℕ) → k ≤ m → m ≤ 27000000000000 → b ≤ 4000000000000000000 → suc t ≤ 16777216 → most + 2000 < 2 ^ 64 → IsNumber i → StateFits t k b v s → WorldNamed k s.world → AreNumbered most s.asked → HasPlace words k m s.world (step.Deliver i) →
      HaveRoom any_join words s.world (delivers s i).moves → AllByRecursion IsKeyedLine (delivers s i).lines → DeliveryNumbered m (most + 2000) (delivers s i)
  delivers_numbers t k m b most v s i grows top low few high number fits named lists place room keyed =
      let d : Moving = plainly (step.Deliver i) in
      let e : Effect AnyRow = effect s d in
      let small = small_of facts t k b v s.world fits.within (omega arith) fits.world named in
      let effects = step_named k m grows (omega arith) s.world named small (step.Deliver i) (none_given VersionLimit) number place tt in
      let after = next_named k m grows (omega arith) s.world named small e effects in
      let moved = moves (rows_bounded facts t v fits.within) stays t k m b s.world d grows top (omega arith) few fits.world fits.marks tt place tt in
      let now : StateFits (suc t) m (b + mail_limit) v (doing s d) = record { within = within_more t v fits.within few; world = moved.world; asked = asked_later t (suc t) v v s.asked (omega arith) (grew_same v) fits.asked; block = fits.block; marks = moved.marks } in
      let ends = delivery_ends t k b v s i fits.within fits.world in
      let o = goes_on_numbers (suc t) m (b + mail_limit) most v (doing s d) top high now after lists e.ends ends room.1 (split_keyed e.tells (goes_on (doing s d) e.ends).lines keyed) in
      record { answer = effects.answer (sent_few s.world d room.0); out = record { lines = all_append LineFits e.tells (goes_on (doing s d) e.ends).lines (effects.lines (sent_few s.world d room.0)) o.lines; named = o.named; lists = o.lists } }

  -- ---- requests that begin

  module _ (t k b most : ℕ) (v : Drawn) (s : State) (n : ℕ) (o : Order) (top : k ≤ 27000000000000) (low : b ≤ 4000000000000000000) (few : suc t ≤ 16777216) (number : IsNumber n) (fits : StateFits t k b v s) (named : WorldNamed k s.world) (lists : AreNumbered most s.asked) where
    abbrev first : Flow × Phase AnyRow
    first = started o (suc (length s.world.requests)) s.block

    abbrev here : World
    here = next any_join words s.world (plainly (step.Open n))

    abbrev Begun : Outcome → Type 0
    Begun x = AnswerFits x.refused x.words × OutNumbered k most x

    opened_numbers : HaveRoom any_join words s.world (opened s n o).moves → Begun (opened s n o)
    opened_numbers room =
        let q : ℕ = suc (length s.world.requests) in
        let small = small_of facts t k b v s.world fits.within top fits.world named in
        let opening = step_named k k (omega arith) (omega arith) s.world named small (step.Open n) (none_given VersionLimit) number tt tt in
        let after = next_named k k (omega arith) (omega arith) s.world named small (effect s (plainly (step.Open n))) opening in
        let one = moves (rows_bounded facts t v fits.within) stays t k k b s.world (plainly (step.Open n)) (omega arith) top (omega arith) few fits.world fits.marks tt tt tt in
        let next_small = small_of facts (suc t) k (b + mail_limit) v here (within_more t v fits.within few) top one.world after in
        let phase = step_named k k (omega arith) (omega arith) here after next_small (step.Phase q first.1) (none_given VersionLimit) tt tt tt in
        let requests = small.requests in (
          (requests, tt),
          record {
            lines = phase.lines (sent_few here (phases q first.1) room.1.0);
            named = next_named k k (omega arith) (omega arith) here after next_small (does any_join words here (phases q first.1)) phase;
            lists = λ p x is. elim (numbered_push_cases s.asked (new_request n o first.0) p x is) [
              | inl old ↦ lists p x old
              | inr last ↦ subst (λ (y : Asked). WaitsNumbered most y.kind y.flow) last.1 (started_is VersionFits IsNumber (ListFits most) (tt, omega arith) o q s.block)
            ];
          },
        )

    by_tests : (x y : Bool) → HaveRoom any_join words s.world (if x then (if y then opened s n o else refusal s NoSuchBucket) else refusal s NotMember).moves → Begun (if x then (if y then opened s n o else refusal s NoSuchBucket) else refusal s NotMember)
    by_tests true true room = opened_numbers room
    by_tests true false room = (tt, record { lines = tt; named = named; lists = lists })
    by_tests false y room = (tt, record { lines = tt; named = named; lists = lists })

    pub begins_numbers : HaveRoom any_join words s.world (begins s n o).moves → Begun (begins s n o)
    begins_numbers room = by_tests (is_member_at layouts s.world n) (are_buckets s.buckets (buckets_of o)) room
