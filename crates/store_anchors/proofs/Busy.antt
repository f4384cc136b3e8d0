-- Requests go on: none waits on with its phase ended, so that after an act one rests only where it needs its client.
use Rattle.std.specs.Prelude.{◌≡◌, ℕ, zero, suc, true, false, Option, Some, None, if◌then◌else◌, List, [], ◌∷◌, ◌++◌, length, refl, ⊤, ◌⊎◌}
use Rattle.std.proofs.Common.{ap, sym, subst, ◌∙◌, inl, inr}
use Rattle.std.specs.List.{AllByRecursion}
use Rattle.std.proofs.lemmas.List.Elements.{All-nil}
use Rattle.crdt_rows.specs.declared.version.Version.{Version}
use Rattle.crdt_rows.specs.declared.body.Meta.{Meta}
use Rattle.crdt_rows.specs.declared.version_row.BlockRef.{BlockRef}
use Rattle.crdt_rows.specs.declared.object_row.ObjectRow.{ObjectRow}
use Rattle.crdt_rows.specs.declared.any_row.AnyRow.{AnyRow}
use Rattle.crdt_rows.specs.AnyRow.{any_join}
use Rattle.object_schema.specs.Schema.{words}
use Rattle.wire_messages.specs.declared.phase.Phase.TheVariants.{Store}
use Rattle.wire_messages.specs.declared.phase.PhaseEnd.{PhaseEnd}
use Rattle.wire_messages.specs.declared.phase.PhaseEnd.TheVariants.{Row as Answered, Window, Kept, Block}
use Rattle.cluster_machine.specs.declared.step.Refusal.TheVariants.{NotMember, NoSuchBucket}
use Rattle.cluster_machine.specs.declared.step.Step.TheVariants as step
use Rattle.cluster_machine.specs.Layouts.{layouts}
use Rattle.cluster_machine.specs.Node.{Ended}
use Rattle.cluster_machine.specs.Step.{changed}
use Rattle.cluster_machine.specs.World.{clock, is_member_at, numbered, undelivered}
use Rattle.cluster_machine.specs.Worlds.{run as world_run}
use Rattle.flow_model.specs.declared.order.Order.{Order}
use Rattle.flow_model.specs.declared.flow.Name.{Name}
use Rattle.flow_model.specs.declared.flow.Content.{Content}
use Rattle.flow_model.specs.declared.flow.Wish.{Wish}
use Rattle.flow_model.specs.declared.flow.Wish.TheVariants as wish
use Rattle.flow_model.specs.declared.flow.Aim.{Aim}
use Rattle.flow_model.specs.declared.flow.Aim.TheVariants as aim
use Rattle.flow_model.specs.declared.flow.Stage.{Stage}
use Rattle.flow_model.specs.declared.flow.Stage.TheVariants.{Drawing, Uploading, Receiving, Needing, Aborting, Completing, Looking, Opening, Gathering, Listing}
use Rattle.flow_model.specs.declared.flow.Flow.{Flow}
use Rattle.flow_model.specs.declared.flow.FlowStep.{FlowStep}
use Rattle.flow_model.specs.declared.flow.FlowStep.TheVariants.{More, Need, Wait, End}
use Rattle.flow_model.specs.Blocks.{has_piece, is_long}
use Rattle.flow_model.specs.Flow.{started}
use Rattle.flow_model.specs.Rows.{uploading, block_rows}
use Rattle.flow_model.specs.Says.{Said, none, marked, inline, in_blocks, said_of, Named, shown_rows}
use Rattle.flow_model.specs.Next.{drawn, stores, more, found, looked, reads_on, gathers, opened, lists, completes, writes, uploads, goes_on as flow_goes_on, next}
use Rattle.flow_laws.specs.Pieces.{named_pieces}
use Rattle.store_model.specs.Orders.{buckets_of}
use Rattle.store_model.specs.Run.{Moving, State, start, Asked, Draw, Outcome, silent, refusal, plainly, effect, doing, are_buckets, opened as opens_request, begins, draws_of, takes, follows, follow, goes_on, delivers, then_drains, drains}
use Rattle.store_model.specs.Acts.{Act, moves, installs, asks, delivery, drain, forgets, takes as takes_end, adds, cuts, feeds, keeps, gives_up, acted, after_acts, IsLawfulAct, AreLawfulActs}
use Rattle.std.specs.Prelude.{◌==◌, ◌-◌, Bool, IsSome, slice_set}
use Rattle.std.specs.Option.{option_map_or}
use Rattle.std.proofs.lemmas.Bool.{eqb-true, eqb-false}
use Rattle.cluster_machine.specs.World.{Request}
use Rattle.machine_origins.proofs.Places.{numbered_append, numbered_set, numbered_set_here}
use Rattle.flow_model.specs.declared.flow.Coming.{Coming}
use Rattle.flow_model.specs.Streams.{Step, need_of, fed, finished, given_up}
use Rattle.store_model.specs.Run.{new_request, is_open_at, needed, hears, heard_in, heard as heard_of, fills_at}
use Rattle.store_laws.specs.Promised.{GoesOn}
use Rattle.store_model.proofs.Leads.{delivers_lead}
use Rattle.store_laws.proofs.Acts.{delivers_keeps, act_keeps}
use Rattle.store_laws.proofs.Enders.{is_calm}
use Rattle.store_laws.proofs.Ends.{ends_are}
use Rattle.store_laws.proofs.Going.{flow_of}
use Rattle.store_laws.proofs.Good.{IsGood}
use Rattle.store_laws.proofs.Once.{IsOnceIn, act_once, delivers_once}
use Rattle.store_laws.proofs.Sound.{WaitsAt, IsSound, sights}
use Rattle.store_laws.proofs.Stepping.{step_sound, calm_fine}
use Rattle.store_anchors.proofs.Acting.{OutcomeLaid}
use Rattle.store_anchors.proofs.Acts.{IsHeld, draws_apart, delivers_laid, delivers_fated, act_laid, act_fated, start_held}
use Rattle.store_anchors.proofs.Fated.{IsFatedIn, fated_quiet}
use Rattle.crdt_core.proofs.Each.{all_weaker}
use Rattle.store_anchors.proofs.Cited.{Cited}
use Rattle.store_anchors.proofs.Kept.{AsksNames}
use Rattle.store_anchors.proofs.Laid.{past, IsLaidIn}
use Rattle.store_anchors.proofs.Naming.{named}
use Rattle.store_anchors.proofs.Placed.{OnlyRest, IsPlaced, ArePlaced, heard, kept_installing, kept_outer, open_kept, begin_kept, close_kept}
use Rattle.store_anchors.proofs.Staying.{FirstEnded}
use Rattle.store_anchors.proofs.Steps.{HasGot, calm_got, calm_now, calm_laid, laid_different}
use Rattle.store_anchors.proofs.Told.{AreApart}
use Rattle.store_laws.proofs.Hashing.{FitIn, ActsIn, in_parts}
use Rattle.store_laws.proofs.Deeds.{Deed}

-- ---- what a request does next

-- it goes on, needs its client, or ends
abbrev pub IsGoing : FlowStep → Type 0
IsGoing (More flow phase) = ⊤
IsGoing (Need flow wanted) = IsSome (need_of flow)
IsGoing (Wait flow) = ⊥
IsGoing (End end) = ⊤

-- a stream that waits for its client needs something
some_needed : (id block : ℕ) (name : Name) (v : Version) (coming : Coming) (received : List ℕ) → IsSome (need_of (record { id = id; block = block; stage = Needing name v coming received }))
some_needed id block name v coming received = refl

module _ (id block : ℕ) where
  found_going : (aim : Aim) (v : Version) (meta : Meta) (body : List ℕ) → IsGoing (found id block aim v meta body)
  found_going aim.Get v meta body = tt
  found_going aim.Head v meta body = tt
  found_going (aim.Copy name headers) v meta body = tt

  gathers_going : (aim : Aim) (v : Version) (meta : Meta) (left : List BlockRef) (body : List ℕ) → IsGoing (gathers id block aim v meta left body)
  gathers_going aim v meta [] body = found_going aim v meta body
  gathers_going aim v meta (b ∷ left) body = tt

  reads_on_going : (aim : Aim) (v : Version) (meta : Meta) → IsGoing (reads_on id block aim v meta)
  reads_on_going aim.Get v meta = tt
  reads_on_going aim.Head v meta = tt
  reads_on_going (aim.Copy name headers) v meta = tt

  looked_going : (aim : Aim) (said : Said) → IsGoing (looked id block aim said)
  looked_going aim none = tt
  looked_going aim (marked v) = tt
  looked_going aim (inline v meta body) = found_going aim v meta body
  looked_going aim (in_blocks v meta first) = reads_on_going aim v meta

  lists_going : (bucket prefix : List ℕ) (rows : List ObjectRow) (reach : Option (List ℕ)) → IsGoing (lists id block bucket prefix rows reach)
  lists_going bucket prefix rows None = tt
  lists_going bucket prefix rows (Some after) = tt

  writes_going : (name : Name) (v : Version) (w : Wish) → IsGoing (writes id block name v w)
  writes_going name v wish.Marker = tt
  writes_going name v (wish.Stream coming) = tt
  writes_going name v (wish.Content c) =
      elim (is_long c.body) as (λ b. IsGoing (elim b as (λ b. FlowStep) [ true ↦ more id block (Uploading name v c 0) (stores (uploading name v)) | false ↦ completes id block name v (wish.Content c) ])) [
        | true ↦ tt
        | false ↦ tt
      ]

  uploads_going : (name : Name) (v : Version) (c : Content) (i : ℕ) → IsGoing (uploads id block name v c i)
  uploads_going name v c i =
      elim (has_piece block c.body i) as (λ b. IsGoing (elim b as (λ b. FlowStep) [ true ↦ more id block (Uploading name v c (suc i)) (Store (block_rows v.id block c.body i)) | false ↦ completes id block name v (wish.Content c) ])) [
        | true ↦ tt
        | false ↦ tt
      ]

module _ {H : Deed → Type 0} where
  module _ (cited : Cited H) (moves : List Moving) (s : State) (q : ℕ) (a : Asked) (at : numbered s.asked q ≡ Some a) (block : ℕ) (sound : IsSound H s) (apart : AreApart s.draws) (fated : IsFatedIn moves s) (laid : IsLaidIn H moves s) where
    -- no request waits on when its phase has ended
    pub going : (now : ℕ) (stage : Stage) (end : PhaseEnd AnyRow) → a.flow ≡ Some (flow_of q block stage) → HasGot s.asked (past moves s.world s.draws) s.world.reads q end → IsGoing (flow_goes_on q block stage end now)
    going now (Drawing name w) (Answered value) flow_is got = writes_going q block name (drawn q value now) w
    going now (Looking name aim) (Answered value) flow_is got = looked_going q block aim (said_of value)
    going now (Opening v meta aim) (Answered value) flow_is got =
        let names : AsksNames (past moves s.world s.draws) v meta got.question = got.asks a (flow_of q block (Opening v meta aim)) at flow_is in
        elim (named cited moves s sound apart fated laid v meta names.found got.question names.table names.key names.kept value got.is_there) [
          | inl e ↦ subst (λ (n : Named). IsGoing (opened q block aim v meta n)) (sym e) (gathers_going q block aim v meta (named_pieces names.found.draw.block names.found.content.body 0 (suc names.found.last)) [])
          | inr e ↦ subst (λ (n : Named). IsGoing (opened q block aim v meta n)) (sym e.0) tt
        ]
    going now (Uploading name v c i) Kept flow_is got = uploads_going q block name v c i
    going now (Receiving name v coming received) Kept flow_is got = some_needed q block name v coming received
    going now (Aborting v) Kept flow_is got = tt
    going now (Completing v meta) Kept flow_is got = tt
    going now (Gathering v meta aim left body) (Block bytes) flow_is got = gathers_going q block aim v meta left (body ++ bytes)
    going now (Listing bucket prefix rows) (Window others reach) flow_is got = lists_going q block bucket prefix (rows ++ shown_rows others) reach
    going now stage (Answered value) flow_is got = absurd (got.asks a (flow_of q block stage) at flow_is)
    going now stage (Window others reach) flow_is got = absurd (got.scans a (flow_of q block stage) at flow_is)
    going now stage Kept flow_is got = absurd (got.stores a (flow_of q block stage) at flow_is)
    going now stage (Block bytes) flow_is got = absurd (got.gets a (flow_of q block stage) at flow_is)

-- ---- states in which a request rests only where it needs its client

-- it needs something
pub record NeedsClient (asked : List Asked) (q : ℕ) : Type 0 where
  pub one : Asked
  pub is_there : numbered asked q ≡ Some one
  pub needs : IsSome (needed (Some one))

pub record IsBusy (s : State) : Type 0 where
  pub placed : ArePlaced s.world.nodes s.world.requests
  pub rests : OnlyRest (NeedsClient s.asked) s.world.nodes

-- another request than q needs its client
abbrev pub OtherNeeds : List Asked → ℕ → ℕ → Type 0
OtherNeeds asked q p = (p ≡ q → ⊥) × NeedsClient asked p

-- request q may rest, beside those that need their clients
abbrev pub MayRest : List Asked → ℕ → ℕ → Type 0
MayRest asked q p = (p ≡ q) ⊎ NeedsClient asked p

-- it, or another
own_or_other : (asked : List Asked) (q p : ℕ) → MayRest asked q p → (p ≡ q) ⊎ OtherNeeds asked q p
own_or_other asked q p may = elim (p == q) as (λ b. (p == q) ≡ b → (p ≡ q) ⊎ OtherNeeds asked q p) [
  | true ↦ λ t. inl (eqb-true p q t)
  | false ↦ λ f. (let other : p ≡ q → ⊥ = eqb-false p q f in elim may [ inl own ↦ absurd (other own) | inr needs ↦ inr (other, needs) ])
] refl

-- who needs its client needs it still when another waits for something else
other_set : (asked : List Asked) (q p : ℕ) (a : Asked) (flow : Option Flow) → numbered asked q ≡ Some a → OtherNeeds asked q p → NeedsClient (slice_set asked (q - 1) (record a { flow = flow })) p
other_set asked q p a flow at h = elim (numbered_set asked q p a (record a { flow = flow }) h.1.one at h.1.is_there) [
  | inl own ↦ absurd (h.0 own)
  | inr there ↦ record { one = h.1.one; is_there = there; needs = h.1.needs }
]

takes_busy : (s : State) (q : ℕ) (a : Asked) (ds : List Draw) (st : FlowStep) → numbered s.asked q ≡ Some a → IsGoing st → ArePlaced s.world.nodes s.world.requests → OnlyRest (MayRest s.asked q) s.world.nodes → IsBusy (takes s q a ds st).state
takes_busy s q a ds (More flow phase) at h placed rest =
    let k = begin_kept s.world placed (OtherNeeds s.asked q) q (λ n c there is. own_or_other s.asked q c.request (rest n c there is)) phase in
    record { placed = k.places; rests = λ n c there is. other_set s.asked q c.request a (Some flow) at (k.rests n c there is) }
takes_busy s q a ds (Need flow wanted) at h placed rest = record {
  placed = placed;
  rests = λ n c there is. elim (own_or_other s.asked q c.request (rest n c there is)) [
    | inl own ↦
        let new : Asked = record a { flow = Some flow } in
        record { one = new; is_there = ap (numbered (slice_set s.asked (q - 1) new)) own ∙ numbered_set_here s.asked q new a at; needs = h }
    | inr other ↦ other_set s.asked q c.request a (Some flow) at other
  ];
}
takes_busy s q a ds (Wait flow) at h placed rest = absurd h
takes_busy s q a ds (End end) at h placed rest =
    let k = close_kept s.world placed (OtherNeeds s.asked q) q (λ n c there is. own_or_other s.asked q c.request (rest n c there is)) in
    record { placed = k.places; rests = λ n c there is. other_set s.asked q c.request a None at (k.rests n c there is) }

module _ {H : Deed → Type 0} where
  module _ (cited : Cited H) where
    follows_busy : (ms : List Moving) (s : State) (q : ℕ) (a : Asked) (flow : Flow) → numbered s.asked q ≡ Some a → IsSound H s → AreApart s.draws → IsFatedIn ms s → IsLaidIn H ms s → (end : PhaseEnd AnyRow) → a.flow ≡ Some flow → HasGot s.asked (past ms s.world s.draws) s.world.reads q end →
        ArePlaced s.world.nodes s.world.requests → OnlyRest (MayRest s.asked q) s.world.nodes → IsBusy (follows s q a end (Some flow)).state
    follows_busy ms s q a flow at sound apart fated laid end flow_is got placed rest =
        let stage = sound.stages q a flow at flow_is in
        let same : flow ≡ flow_of q flow.block flow.stage = (λ i. record { id = stage.0 i; block = flow.block; stage = flow.stage }) in
        let now : ℕ = clock s.world a.node in
        let goes : IsGoing (next flow end now) = subst (λ (f : Flow). IsGoing (next f end now)) (sym same) (going cited ms s q a at flow.block sound apart fated laid now flow.stage end (flow_is ∙ ap Some same) got) in
        takes_busy (record s { saw = record { request = q; end = end } ∷ s.saw }) q a (draws_of s q flow.block flow.stage end now) (next flow end now) at goes placed rest

    follow_busy : (ms : List Moving) (s : State) (n q : ℕ) (o : Option Asked) → numbered s.asked q ≡ o → WaitsAt s.asked n q → IsSound H s → AreApart s.draws → IsFatedIn ms s → IsLaidIn H ms s → (end : PhaseEnd AnyRow) → HasGot s.asked (past ms s.world s.draws) s.world.reads q end →
        ArePlaced s.world.nodes s.world.requests → OnlyRest (MayRest s.asked q) s.world.nodes → IsBusy (follow s q o end).state
    follow_busy ms s n q None at waits sound apart fated laid end got placed rest = (let no : None ≡ Some waits.one = sym at ∙ waits.is_there in cc)
    follow_busy ms s n q (Some a) at waits sound apart fated laid end got placed rest =
        let some_is : Some a ≡ Some waits.one = sym at ∙ waits.is_there in
        let one_is : a ≡ waits.one = cc in
        let flow_is : a.flow ≡ Some waits.flow = ap (λ (x : Asked). x.flow) one_is ∙ waits.flow_is in
        subst (λ (f : Option Flow). IsBusy (follows s q a end f).state) (sym flow_is) (follows_busy ms s q a waits.flow at sound apart fated laid end flow_is got placed rest)

    goes_on_busy : (ms : List Moving) (s : State) (n : ℕ) (ends : List (Ended AnyRow)) → IsSound H s → AreApart s.draws → IsFatedIn ms s → IsLaidIn H ms s → AllByRecursion (λ (e : Ended AnyRow). WaitsAt s.asked n e.request) ends →
        AllByRecursion (λ (e : Ended AnyRow). HasGot s.asked (past ms s.world s.draws) s.world.reads e.request e.how) ends → ArePlaced s.world.nodes s.world.requests → OnlyRest (λ p. FirstEnded ends p ⊎ NeedsClient s.asked p) s.world.nodes → IsBusy (goes_on s ends).state
    goes_on_busy ms s n [] sound apart fated laid waits got placed rest = record { placed = placed; rests = λ m c there is. elim (rest m c there is) [ inl unended ↦ absurd unended | inr needs ↦ needs ] }
    goes_on_busy ms s n (e ∷ es) sound apart fated laid waits got placed rest = follow_busy ms s n e.request (numbered s.asked e.request) refl waits.0 sound apart fated laid e.how got.0 placed rest

    delivers_busy : (ms : List Moving) (s : State) (m : ℕ) → FitIn H s.world (delivers s m).moves → IsSound H s → AreApart s.draws → IsFatedIn ms s → IsLaidIn H ms s → IsBusy s → IsBusy (delivers s m).state
    delivers_busy ms s m fits sound apart fated laid busy =
        let d : Moving = plainly (step.Deliver m) in
        let e = effect s d in
        let calm = is_calm cited.every s d tt sound in
        let waits = all_weaker _ (λ (x : Ended AnyRow). WaitsAt s.asked calm.node x.request) (λ x h. h.1) e.ends
        (ends_are H s.asked s.draws s.history (sights s) calm.node s.world.kept s.world.reads e.keeps e.reads (s.world.nodes calm.node).calls (changed e.nodes s.world.nodes calm.node).calls e.ends (sound.presents calm.node) calm.ends).0 in
        let h = heard s.world busy.placed (NeedsClient s.asked) busy.rests (laid_different cited ms s laid) m in
        goes_on_busy (ms ++ d ∷ []) (doing s d) calm.node e.ends
        (step_sound s d sound (tt, tt, tt, fits.0.1, tt) fits.0.2 (All-nil (IsGood s.draws)) (calm_fine s e sound calm)) apart (fated_quiet ms d s.asked s.draws refl fated)
        (calm_laid cited ms s d tt refl tt tt tt tt (fits.0, tt) laid) waits (calm_got cited ms s d (tt, tt, tt, fits.0.1, tt) (calm_now cited ms s d tt laid) laid) h.places h.rests

    drains_busy : (n : ℕ) (ms : List Moving) (s : State) → FitIn H s.world (drains n s).moves → IsSound H s → IsOnceIn s → IsFatedIn ms s → IsLaidIn H ms s → IsBusy s → IsBusy (drains n s).state
    drains_busy zero ms s fits sound once fated laid busy = busy
    drains_busy (suc n) ms s fits sound once fated laid busy =
        elim (undelivered s.world) as (λ o. FitIn H s.world (elim o as (λ o. Outcome) [ None ↦ silent s | Some m ↦ let o = delivers s m in then_drains o (drains n o.state) ]).moves →
        IsBusy (elim o as (λ o. Outcome) [ None ↦ silent s | Some m ↦ let o = delivers s m in then_drains o (drains n o.state) ]).state) [
          | None ↦ λ fits. busy
          | Some m ↦ λ fits.
              let first : Outcome = delivers s m in
              let rest : Outcome = drains n first.state in
              let parts = in_parts H s.world first.moves rest.moves fits in
              let leads : world_run any_join words s.world first.moves ≡ first.state.world = delivers_lead s m in
              let apart : AreApart s.draws = draws_apart s sound once in
              let one : OutcomeLaid H ms s first = delivers_laid cited ms s m parts.0 sound apart fated laid in
              drains_busy n (ms ++ first.moves) first.state (subst (λ w. FitIn H w rest.moves) leads parts.1) (delivers_keeps cited.every s m parts.0 sound) (delivers_once s m once) (delivers_fated cited ms s m parts.0 sound once fated laid) one.0
              (delivers_busy ms s m parts.0 sound apart fated laid busy)
        ] fits

    opened_busy : (s : State) (n : ℕ) (o : Order) → is_member_at layouts s.world n ≡ true → IsBusy s → IsBusy (opens_request s n o).state
    opened_busy s n o member busy =
        let q : ℕ = suc (length s.world.requests) in
        let k = open_kept s.world busy.placed (NeedsClient s.asked) busy.rests n member in
        let here : State = doing s (plainly (step.Open n)) in
        let b = begin_kept here.world k.places (NeedsClient s.asked) q k.rests (started o q s.block).1 in
        let a : Asked = new_request n o (started o q s.block).0 in
        record { placed = b.places; rests = λ m c there is. (let needs = b.rests m c there is in record { one = needs.one; is_there = numbered_append s.asked (a ∷ []) c.request needs.one needs.is_there; needs = needs.needs }) }

    begins_busy : (s : State) (n : ℕ) (o : Order) → IsBusy s → IsBusy (begins s n o).state
    begins_busy s n o busy =
        elim (is_member_at layouts s.world n) as (λ b. is_member_at layouts s.world n ≡ b → IsBusy (if b then (if are_buckets s.buckets (buckets_of o) then opens_request s n o else refusal s NoSuchBucket) else refusal s NotMember).state) [
          | true ↦ λ member. elim (are_buckets s.buckets (buckets_of o)) as (λ b. IsBusy (if b then opens_request s n o else refusal s NoSuchBucket).state) [
            | true ↦ opened_busy s n o member busy
            | false ↦ record { placed = busy.placed; rests = busy.rests }
          ]
          | false ↦ λ member. record { placed = busy.placed; rests = busy.rests }
        ] refl

    -- a request whose client was heard goes on
    hears_busy : (s : State) (q : ℕ) (a : Asked) (next : Step) → numbered s.asked q ≡ Some a → IsBusy s → IsBusy (hears s q a next).state
    hears_busy s q a None at busy = busy
    hears_busy s q a (Some next) at busy = takes_busy s q a [] (More next.0 next.1) at tt busy.placed (λ n c there is. inr (busy.rests n c there is))

    in_busy : (s : State) (q : ℕ) (says : Flow → Step) (a : Asked) (flow : Option Flow) → numbered s.asked q ≡ Some a → IsBusy s → IsBusy (heard_in s q says a flow).state
    in_busy s q says a None at busy = busy
    in_busy s q says a (Some flow) at busy = hears_busy s q a (says flow) at busy

    heard_busy : (s : State) (q : ℕ) (says : Flow → Step) (asked : Option Asked) → numbered s.asked q ≡ asked → IsBusy s → IsBusy (heard_of s q says asked).state
    heard_busy s q says None at busy = busy
    heard_busy s q says (Some a) at busy = in_busy s q says a a.flow at busy

    act_busy : (ms : List Moving) (s : State) (a : Act) → IsLawfulAct s a → FitIn H s.world (acted s a).moves → IsHeld H ms s → IsBusy s → IsBusy (acted s a).state
    act_busy ms s (moves m) lawful fits h busy = let k = kept_outer s.world busy.placed (NeedsClient s.asked) busy.rests m.step m.choice lawful.0 in record { placed = k.places; rests = k.rests }
    act_busy ms s (asks n o) lawful fits h busy = begins_busy s n o busy
    act_busy ms s (delivery m) lawful fits h busy = delivers_busy ms s m fits h.sound (draws_apart s h.sound h.once) h.fated h.laid busy
    act_busy ms s (drain n) lawful fits h busy = drains_busy n ms s fits h.sound h.once h.fated h.laid busy
    act_busy ms s (installs first) lawful fits h busy = let k = kept_installing s.world busy.placed (NeedsClient s.asked) busy.rests first (λ roles. roles) in record { placed = k.places; rests = k.rests }
    act_busy ms s forgets lawful fits h busy = record { placed = busy.placed; rests = busy.rests }
    act_busy ms s (takes_end q) lawful fits h busy = record { placed = busy.placed; rests = busy.rests }
    act_busy ms s (adds name) lawful fits h busy = record { placed = busy.placed; rests = busy.rests }
    act_busy ms s (cuts block) lawful fits h busy = record { placed = busy.placed; rests = busy.rests }
    act_busy ms s (feeds q bytes) lawful fits h busy = heard_busy s q (λ flow. fed flow bytes) (numbered s.asked q) refl busy
    act_busy ms s (keeps q) lawful fits h busy = heard_busy (record s { draws = fills_at s q (numbered s.asked q) ++ s.draws }) q finished (numbered s.asked q) refl (record { placed = busy.placed; rests = busy.rests })
    act_busy ms s (gives_up q) lawful fits h busy = heard_busy s q given_up (numbered s.asked q) refl busy

    acts_busy : (ms : List Moving) (s : State) (as' : List Act) → AreLawfulActs s as' → ActsIn H s as' → IsHeld H ms s → IsBusy s → IsBusy (after_acts s as')
    acts_busy ms s [] lawful fit h busy = busy
    acts_busy ms s (a ∷ as') lawful fit h busy =
        let o : Outcome = acted s a in
        let one : OutcomeLaid H ms s o = act_laid cited ms s a lawful.0 fit.0 h.sound h.once h.fated h.laid in
        acts_busy (ms ++ o.moves) o.state as' lawful.1 fit.1 (record { sound = act_keeps cited.every s a lawful.0 fit.0 h.sound; once = act_once s a h.sound h.once; laid = one.0; fated = act_fated cited ms s a lawful.0 fit.0 h.sound h.once h.fated h.laid }) (act_busy ms s a lawful.0 fit.0 h busy)

    -- what an open request needs is needed
    is_needed : (is_open : Bool) (o : Option ℕ) → is_open ≡ true → IsSome o → IsSome (if is_open then o else None)
    is_needed true o e h = h
    is_needed false o e h = cc

    -- after acts a request rests only where it needs its client
    pub goes_on_always : (as' : List Act) → AreLawfulActs start as' → ActsIn H start as' → GoesOn (after_acts start as')
    goes_on_always as' lawful fit n c h is =
        let s : State = after_acts start as' in
        let busy : IsBusy s = acts_busy [] start as' lawful fit (start_held cited) (record { placed = λ n c h. absurd h; rests = λ n c h is. absurd h }) in
        let needs : NeedsClient s.asked c.request = busy.rests n c h is in
        let placed : IsPlaced s.world.requests n c.request = busy.placed n c h in
        let is_open : is_open_at s.world c.request ≡ true = ap (λ (o : Option Request). option_map_or (λ (r : Request). r.is_open) o false) placed.is_there ∙ placed.is_open in
        is_needed (is_open_at s.world c.request) (needed (numbered s.asked c.request)) is_open (subst (λ (o : Option Asked). IsSome (needed o)) (sym needs.is_there) needs.needs)
