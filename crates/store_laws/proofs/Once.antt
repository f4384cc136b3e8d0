-- A request makes one write.
use Rattle.std.proofs.Common.{◌≡◌, inl, inr, ℕ, zero, suc, ◌-◌, true, false, Option, Some, None, if◌then◌else◌, List, [], ◌∷◌, ◌++◌, length, slice_set, refl, sym, ap, ◌∙◌, subst}
use Rattle.std.specs.Prelude.{⊤}
use Rattle.std.specs.List.{Contains}
use Rattle.std.proofs.lemmas.List.Elements.{Contains-append_cases}
use Rattle.crdt_rows.specs.declared.version.Version.{Version}
use Rattle.crdt_rows.specs.declared.any_row.AnyRow.{AnyRow}
use Rattle.wire_messages.specs.declared.phase.Phase.TheVariants.{Store}
use Rattle.wire_messages.specs.declared.phase.PhaseEnd.{PhaseEnd}
use Rattle.wire_messages.specs.declared.phase.PhaseEnd.TheVariants.{Row as Answered, Window, Kept, Block}
use Rattle.cluster_machine.specs.declared.step.Refusal.TheVariants.{NotMember, NoSuchBucket}
use Rattle.cluster_machine.specs.declared.step.Step.TheVariants as step
use Rattle.cluster_machine.specs.Layouts.{layouts}
use Rattle.cluster_machine.specs.Node.{Ended}
use Rattle.cluster_machine.specs.World.{clock, is_member_at, numbered, undelivered}
use Rattle.flow_model.specs.declared.order.Order.{Order}
use Rattle.flow_model.specs.declared.flow.Name.{Name}
use Rattle.flow_model.specs.declared.flow.Content.{Content}
use Rattle.flow_model.specs.declared.flow.Wish.{Wish}
use Rattle.flow_model.specs.declared.flow.Wish.TheVariants as wish
use Rattle.flow_model.specs.declared.flow.Stage.{Stage}
use Rattle.flow_model.specs.declared.flow.Stage.TheVariants.{Drawing, Uploading, Receiving, Needing, Aborting, Completing, Looking, Opening, Gathering, Listing}
use Rattle.flow_model.specs.declared.flow.Flow.{Flow}
use Rattle.flow_model.specs.declared.flow.FlowStep.{FlowStep}
use Rattle.flow_model.specs.declared.flow.FlowStep.TheVariants.{More, Need, Wait, End}
use Rattle.flow_model.specs.Blocks.{has_piece, is_long}
use Rattle.flow_model.specs.Rows.{meta_of, content_of, uploading, aborted, block_rows, rows_at}
use Rattle.flow_model.specs.Next.{drawn, stores, more, completes, writes, uploads, goes_on as flow_goes_on}
use Rattle.flow_model.specs.Streams.{fed, finished, given_up, fed_in, kept_in, given_up_in}
use Rattle.store_model.specs.Orders.{buckets_of}
use Rattle.store_model.specs.Run.{Moving, State, start, Asked, Draw, Outcome, silent, refusal, plainly, effect, doing, are_buckets, opened as opens_request, begins, draws_of, takes, follows, follow, goes_on, delivers, then_drains, drains, hears, heard_in, heard, fills_of, fills_in, fills_at}
use Rattle.store_model.specs.Acts.{Act, moves, installs, asks, delivery, drain, forgets, takes as takes_end, adds, cuts, feeds, keeps, gives_up, acted, after_acts, AreLawfulActs, ActsFit}
use Rattle.store_model.specs.Written.{IsFilled, IsOneWrite, AreDrawnOnce}
use Rattle.store_laws.proofs.Elements.{none_in, only, cons_cases}
use Rattle.store_laws.proofs.Records.{is_in}
use Rattle.machine_origins.proofs.Places.{numbered_append, numbered_set_here, numbered_set_cases}
use Rattle.store_laws.proofs.Every.{EveryWorld}
use Rattle.store_laws.proofs.Sound.{HasWished, IsStage, IsSound}
use Rattle.store_laws.proofs.Starting.{start_sound}
use Rattle.store_laws.proofs.Acts.{act_keeps}
use Rattle.store_laws.proofs.Hashing.{fit_in}
use Rattle.store_laws.proofs.Deeds.{Deed, ActsDo}

-- a request that waits so has drawn this: for its stream, while the bytes of one come
abbrev pub IsPast : Draw → Stage → Type 0
IsPast d (Uploading name version content stored) = ⊤
IsPast d (Receiving name version coming received) = d.wish ≡ wish.Stream coming
IsPast d (Needing name version coming received) = d.wish ≡ wish.Stream coming
IsPast d (Aborting version) = ⊤
IsPast d (Completing version meta) = ⊤
IsPast d _ = ⊥

-- each request made one write at most, and waits for nothing that comes before its draws
pub record IsOnce (asked : List Asked) (draws : List Draw) : Type 0 where
  pub one : (d e : Draw) → Contains draws d → Contains draws e → d.request ≡ e.request → IsOneWrite d e
  pub past : (d : Draw) (a : Asked) (flow : Flow) → Contains draws d → numbered asked d.request ≡ Some a → a.flow ≡ Some flow → IsPast d flow.stage

-- the same of the two the other way round
pub other_way : (d e : Draw) → IsOneWrite d e → IsOneWrite e d
other_way d e (inl same) = inl (sym same)
other_way d e (inr (inl filled)) = inr (inr filled)
other_way d e (inr (inr filled)) = inr (inl filled)

-- draws of one write have one version
pub one_version : (d e : Draw) → IsOneWrite d e → d.version ≡ e.version
one_version d e (inl same) = ap (λ (x : Draw). x.version) same
one_version d e (inr (inl filled)) = filled.version_is
one_version d e (inr (inr filled)) = sym filled.version_is

module _ (asked : List Asked) (draws ds : List Draw) (q : ℕ) (a : Asked) (flow : Option Flow) (at : numbered asked q ≡ Some a) (once : IsOnce asked draws)
    (single : (d e : Draw) → Contains ds d → Contains ds e → d ≡ e) (own : (d : Draw) → Contains ds d → d.request ≡ q)
    (new : (d e : Draw) → Contains ds d → Contains draws e → e.request ≡ q → IsOneWrite d e) (later : (f : Flow) (d : Draw) → flow ≡ Some f → Contains (ds ++ draws) d → d.request ≡ q → IsPast d f.stage) where
  abbrev set_now : Asked
  set_now = record a { flow = flow }

  once_set : IsOnce (slice_set asked (q - 1) set_now) (ds ++ draws)
  once_set = record {
    one = λ d e c k same. elim (Contains-append_cases ds draws d c) [
      | inl dn ↦ (elim (Contains-append_cases ds draws e k) [
        | inl en ↦ inl (single d e dn en)
        | inr eo ↦ new d e dn eo (sym same ∙ own d dn)
      ])
      | inr old ↦ (elim (Contains-append_cases ds draws e k) [
        | inl en ↦ other_way e d (new e d en old (same ∙ own e en))
        | inr eo ↦ once.one d e old eo same
      ])
    ];
    past = λ d o f c there is. elim (Contains-append_cases ds draws d c) [
      | inl dn ↦
          let here : Some set_now ≡ Some o = sym (numbered_set_here asked q set_now a at) ∙ (ap (numbered (slice_set asked (q - 1) set_now)) (sym (own d dn)) ∙ there) in
          let same : set_now ≡ o = cc in
          later f d (ap (λ (x : Asked). x.flow) same ∙ is) c (own d dn)
      | inr old ↦ (elim (numbered_set_cases asked q d.request a set_now o at there) [
        | inl e ↦ later f d (ap (λ (x : Asked). x.flow) e.1 ∙ is) c e.0
        | inr was ↦ once.past d o f old was is
      ])
    ];
  }

-- what a step leads to is past this draw
abbrev pub StepPast : Draw → FlowStep → Type 0
StepPast d (More flow phase) = IsPast d flow.stage
StepPast d (Need flow wanted) = IsPast d flow.stage
StepPast d (Wait flow) = IsPast d flow.stage
StepPast d (End end) = ⊤

module _ (id block : ℕ) (d : Draw) where
  writes_past : (name : Name) (v : Version) (w : Wish) → d.wish ≡ w → StepPast d (writes id block name v w)
  writes_past name v wish.Marker is = tt
  writes_past name v (wish.Stream coming) is = is
  writes_past name v (wish.Content c) is =
      elim (is_long c.body) as (λ b. StepPast d (elim b as (λ b. FlowStep) [ true ↦ more id block (Uploading name v c 0) (stores (uploading name v)) | false ↦ completes id block name v (wish.Content c) ])) [
        | true ↦ tt
        | false ↦ tt
      ]

  uploads_past : (name : Name) (v : Version) (c : Content) (i : ℕ) → StepPast d (uploads id block name v c i)
  uploads_past name v c i =
      elim (has_piece block c.body i) as (λ b. StepPast d (elim b as (λ b. FlowStep) [ true ↦ more id block (Uploading name v c (suc i)) (Store (block_rows v.id block c.body i)) | false ↦ completes id block name v (wish.Content c) ])) [
        | true ↦ tt
        | false ↦ tt
      ]

  -- who has drawn doesn't draw again
  next_past : (stage : Stage) (end : PhaseEnd AnyRow) (now : ℕ) → IsPast d stage → StepPast d (flow_goes_on id block stage end now)
  next_past (Uploading name v c i) Kept now past = uploads_past name v c i
  next_past (Uploading name v c i) _ now past = tt
  next_past (Receiving name v coming received) Kept now past = past
  next_past (Receiving name v coming received) _ now past = past
  next_past (Needing name v coming received) _ now past = past
  next_past (Aborting v) Kept now past = tt
  next_past (Aborting v) _ now past = tt
  next_past (Completing v meta) Kept now past = tt
  next_past (Completing v meta) _ now past = tt
  next_past (Drawing name w) end now past = absurd past
  next_past (Looking name aim) end now past = absurd past
  next_past (Opening v meta aim) end now past = absurd past
  next_past (Gathering v meta aim left body) end now past = absurd past
  next_past (Listing bucket prefix rows) end now past = absurd past

abbrev pub IsOnceIn : State → Type 0
IsOnceIn s = IsOnce s.asked s.draws

-- nothing is drawn
module _ (s : State) (q : ℕ) (a : Asked) (at : numbered s.asked q ≡ Some a) (once : IsOnceIn s) where
  set_once : (flow : Option Flow) → ((f : Flow) (d : Draw) → flow ≡ Some f → Contains s.draws d → d.request ≡ q → IsPast d f.stage) → IsOnce (slice_set s.asked (q - 1) (record a { flow = flow })) s.draws
  set_once flow later = once_set s.asked s.draws [] q a flow at once (λ d e c k. absurd (none_in d c)) (λ d c. absurd (none_in d c)) (λ d e c k is. absurd (none_in d c)) later

  abbrev pub StepOnce : List Draw → FlowStep → Type 0
  StepOnce ds st = IsOnceIn (takes s q a ds st).state

  still_once : (st : FlowStep) → ((d : Draw) → Contains s.draws d → d.request ≡ q → StepPast d st) → StepOnce [] st
  still_once (More flow phase) past = set_once (Some flow) (λ f d e c is. (let same : flow ≡ f = cc in subst (λ (g : Flow). IsPast d g.stage) same (past d c is)))
  still_once (Need flow wanted) past = set_once (Some flow) (λ f d e c is. (let same : flow ≡ f = cc in subst (λ (g : Flow). IsPast d g.stage) same (past d c is)))
  still_once (Wait flow) past = set_once (Some flow) (λ f d e c is. (let same : flow ≡ f = cc in subst (λ (g : Flow). IsPast d g.stage) same (past d c is)))
  still_once (End end) past = set_once None (λ f d e c is. cc)

  -- the request draws this
  draws_once : (x : Draw) → x.request ≡ q → ((e : Draw) → Contains s.draws e → e.request ≡ q → ⊥) → (st : FlowStep) → StepPast x st → StepOnce (x ∷ []) st
  draws_once x own new (More flow phase) past =
      once_set s.asked s.draws (x ∷ []) q a (Some flow) at once (λ d e c k. sym (only x d c) ∙ only x e k) (λ d c. ap (λ (y : Draw). y.request) (sym (only x d c)) ∙ own) (λ d e c k is. absurd (new e k is))
      (λ f d e c is. (let same : flow ≡ f = cc in elim (cons_cases x s.draws d c) [
        | inl here ↦ subst (λ (y : Draw). IsPast y f.stage) here (subst (λ (g : Flow). IsPast x g.stage) same past)
        | inr old ↦ absurd (new d old is)
      ]))
  draws_once x own new (Need flow wanted) past = set_once (Some flow) (λ f d e c is. absurd (new d c is))
  draws_once x own new (Wait flow) past = set_once (Some flow) (λ f d e c is. absurd (new d c is))
  draws_once x own new (End end) past = set_once None (λ f d e c is. cc)

-- ---- a phase ended

module _ (s : State) (q : ℕ) (a : Asked) (at : numbered s.asked q ≡ Some a) (once : IsOnceIn s) (how : PhaseEnd AnyRow) where
  abbrev seeing : State
  seeing = record s { saw = record { request = q; end = how } ∷ s.saw }

  module _ (id block now : ℕ) where
    abbrev flow_so : Stage → Flow
    flow_so stage = record { id = id; block = block; stage = stage }

    abbrev StageOnce : Stage → PhaseEnd AnyRow → Type 0
    StageOnce stage end = a.flow ≡ Some (flow_so stage) → StepOnce seeing q a at once (draws_of s q block stage end now) (flow_goes_on id block stage end now)

    has_past : (stage : Stage) → a.flow ≡ Some (flow_so stage) → (d : Draw) → Contains s.draws d → d.request ≡ q → IsPast d stage
    has_past stage is d c own = once.past d a (flow_so stage) c (ap (numbered s.asked) own ∙ at) is

    still : (stage : Stage) (end : PhaseEnd AnyRow) → a.flow ≡ Some (flow_so stage) → StepOnce seeing q a at once [] (flow_goes_on id block stage end now)
    still stage end is = still_once seeing q a at once (flow_goes_on id block stage end now) (λ d c own. next_past id block d stage end now (has_past stage is d c own))

    stage_once : (stage : Stage) (end : PhaseEnd AnyRow) → StageOnce stage end
    stage_once (Drawing name w) (Answered value) is =
        let d : Draw = record { request = q; name = name; version = drawn q value now; wish = w; block = block; moment = length s.history } in
        draws_once seeing q a at once d refl (has_past (Drawing name w) is) (writes id block name (drawn id value now) w) (writes_past id block d name (drawn id value now) w refl)
    stage_once (Drawing name w) (Window rows more) is = still (Drawing name w) (Window rows more) is
    stage_once (Drawing name w) Kept is = still (Drawing name w) Kept is
    stage_once (Drawing name w) (Block bytes) is = still (Drawing name w) (Block bytes) is
    stage_once (Uploading name v c i) end is = still (Uploading name v c i) end is
    stage_once (Receiving name v coming received) end is = still (Receiving name v coming received) end is
    stage_once (Needing name v coming received) end is = still (Needing name v coming received) end is
    stage_once (Aborting v) end is = still (Aborting v) end is
    stage_once (Completing v meta) end is = still (Completing v meta) end is
    stage_once (Looking name aim) end is = still (Looking name aim) end is
    stage_once (Opening v meta aim) end is = still (Opening v meta aim) end is
    stage_once (Gathering v meta aim left body) end is = still (Gathering v meta aim left body) end is
    stage_once (Listing bucket prefix rows) end is = still (Listing bucket prefix rows) end is

  follows_once : (flow : Option Flow) → a.flow ≡ flow → IsOnceIn (follows s q a how flow).state
  follows_once None is = once
  follows_once (Some flow) is = stage_once flow.id flow.block (clock s.world a.node) flow.stage how is

follow_once : (s : State) (q : ℕ) (asked : Option Asked) (end : PhaseEnd AnyRow) → numbered s.asked q ≡ asked → IsOnceIn s → IsOnceIn (follow s q asked end).state
follow_once s q None end at once = once
follow_once s q (Some a) end at once = follows_once s q a at once end a.flow refl

goes_on_once : (s : State) (ends : List (Ended AnyRow)) → IsOnceIn s → IsOnceIn (goes_on s ends).state
goes_on_once s [] once = once
goes_on_once s (e ∷ es) once = follow_once s e.request (numbered s.asked e.request) e.how refl once

pub delivers_once : (s : State) (m : ℕ) → IsOnceIn s → IsOnceIn (delivers s m).state
delivers_once s m once = let d : Moving = plainly (step.Deliver m) in goes_on_once (doing s d) (effect s d).ends once

drains_once : (n : ℕ) (s : State) → IsOnceIn s → IsOnceIn (drains n s).state
drains_once zero s once = once
drains_once (suc n) s once =
    elim (undelivered s.world) as (λ o. IsOnceIn (elim o as (λ o. Outcome) [ None ↦ silent s | Some m ↦ let o = delivers s m in then_drains o (drains n o.state) ]).state) [
      | None ↦ once
      | Some m ↦ drains_once n (delivers s m).state (delivers_once s m once)
    ]

-- ---- the client of a streamed upload was heard

-- draws of one write are of one object
pub one_name : (d e : Draw) → IsOneWrite d e → d.name ≡ e.name
one_name d e (inl same) = ap (λ (x : Draw). x.name) same
one_name d e (inr (inl filled)) = filled.name_is
one_name d e (inr (inr filled)) = sym filled.name_is

module _ {H : Deed → Type 0} where
  module _ (s : State) (q : ℕ) (a : Asked) (at : numbered s.asked q ≡ Some a) (sound : IsSound H s) (once : IsOnceIn s) where
    had_past : (flow : Flow) → a.flow ≡ Some flow → (d : Draw) → Contains s.draws d → d.request ≡ q → IsPast d flow.stage
    had_past flow is d c own = once.past d a flow c (ap (numbered s.asked) own ∙ at) is

    -- a block has come
    fed_once : (bytes : List ℕ) (flow : Flow) (stage : Stage) → a.flow ≡ Some flow → flow.stage ≡ stage → IsOnceIn (hears s q a (fed_in flow.id flow.block stage bytes)).state
    fed_once bytes flow (Needing name version coming received) is stage_is =
        still_once s q a at once (More (record { id = flow.id; block = flow.block; stage = Receiving name version coming (received ++ bytes) }) (Store (rows_at version.id (length received) bytes)))
        (λ d c own. subst (IsPast d) stage_is (had_past flow is d c own))
    fed_once bytes flow _ is stage_is = once

    -- the upload is given up
    given_up_once : (flow : Flow) (stage : Stage) → IsOnceIn (hears s q a (given_up_in flow.id flow.block stage)).state
    given_up_once flow (Needing name version coming received) =
        still_once s q a at once (More (record { id = flow.id; block = flow.block; stage = Aborting version }) (stores (aborted name version))) (λ d c own. tt)
    given_up_once flow _ = once

    -- it is kept: its object is made of the bytes that came
    kept_once : (flow : Flow) (stage : Stage) → a.flow ≡ Some flow → flow.stage ≡ stage → IsOnceIn (hears (record s { draws = fills_of s q flow.block stage ++ s.draws }) q a (kept_in flow.id flow.block stage)).state
    kept_once flow (Needing name version coming received) is stage_is =
        let x : Draw = record { request = q; name = name; version = version; wish = wish.Content (content_of coming received); block = flow.block; moment = length s.history } in
        let wished : HasWished s.draws q name version (wish.Stream coming) = (subst (IsStage H s.draws s.history q a) stage_is (sound.stages q a flow at is).1).1 in
        let w : Draw = record { request = q; name = name; version = version; wish = wish.Stream coming; block = wished.block; moment = wished.moment } in
        let next : Flow = record { id = flow.id; block = flow.block; stage = Completing version (Some (meta_of (content_of coming received))) } in
        once_set s.asked s.draws (x ∷ []) q a (Some next) at once
        (λ d e c k. sym (only x d c) ∙ only x e k) (λ d c. ap (λ (y : Draw). y.request) (sym (only x d c)))
        (λ d e c k own.
        let one : IsOneWrite e w = once.one e w k wished.drawn own in
        let streamed : e.wish ≡ wish.Stream coming = subst (IsPast e) stage_is (had_past flow is e k own) in
        let filled : IsFilled e x = record { request_is = own; name_is = one_name e w one; version_is = one_version e w one; coming = coming; received = received; wish_is = streamed; makes = refl } in
        inr (inr (subst (IsFilled e) (only x d c) filled)))
        (λ f d e c own. (let same : next ≡ f = cc in subst (λ (g : Flow). IsPast d g.stage) same tt))
    kept_once flow _ is stage_is = once

    in_fed : (bytes : List ℕ) (flow : Option Flow) → a.flow ≡ flow → IsOnceIn (heard_in s q (λ flow. fed flow bytes) a flow).state
    in_fed bytes None is = once
    in_fed bytes (Some flow) is = fed_once bytes flow flow.stage is refl

    in_given_up : (flow : Option Flow) → IsOnceIn (heard_in s q given_up a flow).state
    in_given_up None = once
    in_given_up (Some flow) = given_up_once flow flow.stage

    in_kept : (flow : Option Flow) → a.flow ≡ flow → IsOnceIn (heard_in (record s { draws = fills_in s q flow ++ s.draws }) q finished a flow).state
    in_kept None is = once
    in_kept (Some flow) is = kept_once flow flow.stage is refl

  module _ (s : State) (q : ℕ) (sound : IsSound H s) (once : IsOnceIn s) where
    asked_fed : (bytes : List ℕ) (asked : Option Asked) → numbered s.asked q ≡ asked → IsOnceIn (heard s q (λ flow. fed flow bytes) asked).state
    asked_fed bytes None at = once
    asked_fed bytes (Some a) at = in_fed s q a at sound once bytes a.flow refl

    asked_given_up : (asked : Option Asked) → numbered s.asked q ≡ asked → IsOnceIn (heard s q given_up asked).state
    asked_given_up None at = once
    asked_given_up (Some a) at = in_given_up s q a at sound once a.flow

    asked_kept : (asked : Option Asked) → numbered s.asked q ≡ asked → IsOnceIn (heard (record s { draws = fills_at s q asked ++ s.draws }) q finished asked).state
    asked_kept None at = once
    asked_kept (Some a) at = in_kept s q a at sound once a.flow refl

module _ {H : Deed → Type 0} where
  -- a request more has drawn nothing
  opened_once : (s : State) (n : ℕ) (o : Order) → IsSound H s → IsOnceIn s → IsOnceIn (opens_request s n o).state
  opened_once s n o sound once = record {
    one = once.one;
    past = λ d a f c there is.
        let h = sound.drawn d c in
        let asked = sound.told.began_asked d.request h.node h.kind d.name (is_in s.history h.place _ h.began_at) in
        let some_is : Some asked.one ≡ Some a = sym (numbered_append s.asked _ d.request asked.one asked.is_there) ∙ there in
        once.past d a f c (asked.is_there ∙ some_is) is;
  }

  begins_once : (s : State) (n : ℕ) (o : Order) → IsSound H s → IsOnceIn s → IsOnceIn (begins s n o).state
  begins_once s n o sound once =
      elim (is_member_at layouts s.world n) as (λ b. IsOnceIn (if b then (if are_buckets s.buckets (buckets_of o) then opens_request s n o else refusal s NoSuchBucket) else refusal s NotMember).state) [
        | true ↦ elim (are_buckets s.buckets (buckets_of o)) as (λ b. IsOnceIn (if b then opens_request s n o else refusal s NoSuchBucket).state) [
          | true ↦ opened_once s n o sound once
          | false ↦ once
        ]
        | false ↦ once
      ]

  pub act_once : (s : State) (a : Act) → IsSound H s → IsOnceIn s → IsOnceIn (acted s a).state
  act_once s (moves m) sound once = once
  act_once s (asks n o) sound once = begins_once s n o sound once
  act_once s (delivery m) sound once = delivers_once s m once
  act_once s (drain n) sound once = drains_once n s once
  act_once s (installs first) sound once = once
  act_once s forgets sound once = once
  act_once s (takes_end q) sound once = once
  act_once s (adds name) sound once = once
  act_once s (cuts block) sound once = once
  act_once s (feeds q bytes) sound once = asked_fed s q sound once bytes (numbered s.asked q) refl
  act_once s (keeps q) sound once = asked_kept s q sound once (numbered s.asked q) refl
  act_once s (gives_up q) sound once = asked_given_up s q sound once (numbered s.asked q) refl

pub start_once : IsOnceIn start
start_once = record { one = λ d e c k same. absurd (none_in d c); past = λ d a f c there is. absurd (none_in d c) }

module _ {H : Deed → Type 0} where
  module _ (every : EveryWorld H) where
    pub acts_once : (s : State) (as' : List Act) → AreLawfulActs s as' → ActsFit s as' → ((d : Deed) → ActsDo s as' d → H d) → IsSound H s → IsOnceIn s → IsSound H (after_acts s as') × IsOnceIn (after_acts s as')
    acts_once s [] lawful fit all sound once = (sound, once)
    acts_once s (a ∷ as') lawful fit all sound once =
        acts_once (acted s a).state as' lawful.1 fit.1 (λ x h. all x (inr h)) (act_keeps every s a lawful.0 (fit_in H s.world (acted s a).moves fit.0 (λ x h. all x (inl h))) sound) (act_once s a sound once)

    -- no two writes drew one version
    pub draws_differ : (as' : List Act) → AreLawfulActs start as' → ActsFit start as' → ((d : Deed) → ActsDo start as' d → H d) → AreDrawnOnce (after_acts start as').draws
    draws_differ as' lawful fit all d e c k same =
        let both = acts_once start as' lawful fit all start_sound start_once in
        both.1.one d e c k (sym (both.0.drawn d c).id_is ∙ (ap (λ (v : Version). v.id) same ∙ (both.0.drawn e k).id_is))
