-- No timestamp that was drawn is past the time that has passed by more than one for each request.
use Rattle.std.specs.Prelude.{◌≡◌, ◌≤◌, ◌+◌, ◌-◌, ℕ, zero, suc, max, Bool, true, false, cond, if◌then◌else◌, ⊤, List, [], ◌∷◌, ◌++◌, Option, Some, None, length, slice_get, slice_set, refl}
use Rattle.std.specs.List.{AllByRecursion, Contains}
use Rattle.std.proofs.Common.{ap, sym, subst, ◌∙◌, inl, inr, arith, length-append}
use Rattle.std.proofs.lemmas.List.Elements.{All-nil, Contains-append_cases}
use Rattle.crdt_core.specs.declared.max.Max.{Max}
use Rattle.crdt_core.specs.Map.{map_entries}
use Rattle.crdt_core.proofs.Each.{all_append, all_weaker}
use Rattle.crdt_rows.specs.declared.version.Version.{Version}
use Rattle.crdt_rows.specs.declared.state.State as version_state
use Rattle.crdt_rows.specs.declared.any_row.AnyRow.{AnyRow}
use Rattle.crdt_rows.specs.declared.any_row.AnyRow.TheVariants as rows
use Rattle.crdt_rows.specs.AnyRow.{any_join}
use Rattle.crdt_rows.specs.Facts.{HasState}
use Rattle.crdt_rows.specs.State.{is_aborted}
use Rattle.crdt_rows.specs.Versions.{greatest_ts as greatest_of}
use Rattle.object_schema.specs.Schema.{words}
use Rattle.layout_roles.specs.declared.cut.Cut.{Cut}
use Rattle.layout_roles.specs.declared.layout.Layout.{Layout}
use Rattle.layout_roles.specs.declared.role.Role.{Role}
use Rattle.wire_messages.specs.declared.phase.Phase.{Phase}
use Rattle.wire_messages.specs.declared.phase.Phase.TheVariants.{Store}
use Rattle.wire_messages.specs.declared.phase.PhaseEnd.{PhaseEnd}
use Rattle.wire_messages.specs.declared.phase.PhaseEnd.TheVariants.{Row as Answered, Window, Kept, Block}
use Rattle.cluster_machine.specs.declared.step.Step.TheVariants as step
use Rattle.cluster_machine.specs.declared.step.Refusal.{Refusal}
use Rattle.cluster_machine.specs.declared.step.Refusal.TheVariants.{NotMember, NoSuchBucket}
use Rattle.cluster_machine.specs.Layouts.{layouts}
use Rattle.cluster_machine.specs.Node.{Ended}
use Rattle.cluster_machine.specs.Step.{skewed}
use Rattle.cluster_machine.specs.World.{clock, numbered, undelivered, is_member_at}
use Rattle.cluster_machine.specs.Worlds.{next, installs as installing}
use Rattle.flow_model.specs.declared.order.Order.{Order}
use Rattle.flow_model.specs.declared.flow.Name.{Name}
use Rattle.flow_model.specs.declared.flow.Wish.{Wish}
use Rattle.flow_model.specs.declared.flow.Wish.TheVariants as wish
use Rattle.flow_model.specs.declared.flow.Stage.{Stage}
use Rattle.flow_model.specs.declared.flow.Stage.TheVariants.{Drawing, Uploading, Receiving, Needing, Aborting, Completing, Looking, Opening, Gathering, Listing}
use Rattle.flow_model.specs.declared.flow.Flow.{Flow}
use Rattle.flow_model.specs.declared.flow.FlowStep.{FlowStep}
use Rattle.flow_model.specs.declared.flow.FlowStep.TheVariants.{More, Need, Wait, End}
use Rattle.flow_model.specs.Blocks.{has_piece, is_long}
use Rattle.flow_model.specs.Flow.{started}
use Rattle.flow_model.specs.Next.{drawn, stores, more, completes, writes, goes_on as flow_goes_on}
use Rattle.flow_model.specs.Rows.{uploading, block_rows}
use Rattle.flow_model.specs.Says.{greatest_ts}
use Rattle.flow_model.specs.Streams as stream
use Rattle.store_model.specs.Orders.{buckets_of}
use Rattle.store_model.specs.Run.{World, Moving, Asked, Draw, State, Outcome, silent, refusal, plainly, effect, doing, are_buckets, phases, new_request, opened, begins, draws_of, versions_drawn, goes, takes, follows, follow, goes_on, delivers, then_drains, drains, hears, heard_in, heard, fills_of, fills_in, fills_at}
use Rattle.store_model.specs.Acts.{Act, moves, installs, asks, delivery, drain, forgets, takes as takes_end, adds, cuts, feeds, keeps, gives_up, acted}
use Rattle.store_model.proofs.Leads.{delivers_lead}
use Rattle.store_laws.proofs.Deeds.{Deed}
use Rattle.store_laws.proofs.Elements.{none_in, only}
use Rattle.store_laws.proofs.Every.{EveryWorld}
use Rattle.store_laws.proofs.Sound.{IsSound, IsStage, sights}
use Rattle.store_laws.proofs.Good.{IsGood}
use Rattle.store_laws.proofs.Ends.{IsEnd}
use Rattle.store_laws.proofs.Enders.{is_calm}
use Rattle.store_laws.proofs.Grown.{Rests}
use Rattle.store_laws.proofs.Values.{given_good}
use Rattle.store_laws.proofs.Stepping.{step_sound, calm_fine, calm_ends}
use Rattle.store_laws.proofs.Hashing.{FitIn, in_parts}
use Rattle.store_laws.proofs.Acts.{delivers_keeps}
use Rattle.limit_rows.proofs.Weights.{entries_say}
use Rattle.serve_limits.specs.Counts.{IsEven, opens_in, IsEvenAct}
use Rattle.serve_limits.proofs.Steps.{step_adds, trio_adds}

-- ---- requests that may still draw

-- a request that waits so may still draw a version
abbrev draws_yet : Stage → ℕ
draws_yet (Drawing name w) = 1
draws_yet (Looking name aim) = 1
draws_yet (Opening v meta aim) = 1
draws_yet (Gathering v meta aim left body) = 1
draws_yet _ = 0

abbrev yet : Option Flow → ℕ
yet None = 0
yet (Some flow) = draws_yet flow.stage

-- how many requests may
abbrev pub undrawn : List Asked → ℕ
undrawn [] = 0
undrawn (a ∷ as') = yet a.flow + undrawn as'

one_stage : (st : Stage) → draws_yet st ≤ 1
one_stage (Drawing name w) = omega arith
one_stage (Uploading name v c i) = omega arith
one_stage (Receiving name v coming received) = omega arith
one_stage (Needing name v coming received) = omega arith
one_stage (Aborting v) = omega arith
one_stage (Completing v meta) = omega arith
one_stage (Looking name aim) = omega arith
one_stage (Opening v meta aim) = omega arith
one_stage (Gathering v meta aim left body) = omega arith
one_stage (Listing bucket prefix rs) = omega arith

one_yet : (o : Option Flow) → yet o ≤ 1
one_yet None = omega arith
one_yet (Some flow) = one_stage flow.stage

undrawn_few : (as' : List Asked) → undrawn as' ≤ length as'
undrawn_few [] = omega arith
undrawn_few (a ∷ as') = let one = one_yet a.flow in let rest = undrawn_few as' in omega (arith, one, rest)

undrawn_more : (as' : List Asked) (a : Asked) → undrawn (as' ++ a ∷ []) ≡ undrawn as' + yet a.flow
undrawn_more [] a = omega arith
undrawn_more (b ∷ as') a = let rest = undrawn_more as' a in omega (arith, rest)

undrawn_at : (as' : List Asked) (i : ℕ) (old new : Asked) → slice_get as' i ≡ Some old → undrawn (slice_set as' i new) + yet old.flow ≡ undrawn as' + yet new.flow
undrawn_at [] i old new h = cc
undrawn_at (a ∷ as') zero old new h = let same : a ≡ old = cc in let e = ap (λ (x : Asked). yet x.flow) same in omega (arith, e)
undrawn_at (a ∷ as') (suc i) old new h = let rest = undrawn_at as' i old new h in omega (arith, rest)

before_suc : (i : ℕ) → suc i - 1 ≡ i
before_suc i = omega arith

-- one request waits for something else
undrawn_set : (as' : List Asked) (q : ℕ) (old new : Asked) → numbered as' q ≡ Some old → undrawn (slice_set as' (q - 1) new) + yet old.flow ≡ undrawn as' + yet new.flow
undrawn_set as' zero old new h = cc
undrawn_set as' (suc i) old new h = rw before_suc (undrawn_at as' i old new h)

length_set : (as' : List Asked) (i : ℕ) (a : Asked) → length (slice_set as' i a) ≡ length as'
length_set [] i a = refl
length_set (b ∷ as') zero a = refl
length_set (b ∷ as') (suc i) a = ap suc (length_set as' i a)

-- ---- what a request goes on to

abbrev leads : FlowStep → ℕ
leads (More flow phase) = yet (Some flow)
leads (Need flow wanted) = yet (Some flow)
leads (Wait flow) = yet (Some flow)
leads (End end) = 0

leads_one : (st : FlowStep) → leads st ≤ 1
leads_one (More flow phase) = one_stage flow.stage
leads_one (Need flow wanted) = one_stage flow.stage
leads_one (Wait flow) = one_stage flow.stage
leads_one (End end) = omega arith

module _ (id block : ℕ) where
  -- who draws doesn't draw again
  writes_lead : (name : Name) (v : Version) (w : Wish) → leads (writes id block name v w) ≡ 0
  writes_lead name v wish.Marker = refl
  writes_lead name v (wish.Stream coming) = refl
  writes_lead name v (wish.Content c) =
      elim (is_long c.body) as (λ b. leads (elim b as (λ b. FlowStep) [ true ↦ more id block (Uploading name v c 0) (stores (uploading name v)) | false ↦ completes id block name v (wish.Content c) ]) ≡ 0) [ true ↦ refl | false ↦ refl ]

  -- nor who has drawn
  next_leads : (stage : Stage) (end : PhaseEnd AnyRow) (now : ℕ) → leads (flow_goes_on id block stage end now) ≤ draws_yet stage
  next_leads (Drawing name w) end now = leads_one (flow_goes_on id block (Drawing name w) end now)
  next_leads (Looking name aim) end now = leads_one (flow_goes_on id block (Looking name aim) end now)
  next_leads (Opening v meta aim) end now = leads_one (flow_goes_on id block (Opening v meta aim) end now)
  next_leads (Gathering v meta aim left body) end now = leads_one (flow_goes_on id block (Gathering v meta aim left body) end now)
  next_leads (Uploading name v c i) Kept now =
      elim (has_piece block c.body i) as (λ b. leads (elim b as (λ b. FlowStep) [ true ↦ more id block (Uploading name v c (suc i)) (Store (block_rows v.id block c.body i)) | false ↦ completes id block name v (wish.Content c) ]) ≤ 0) [ true ↦ omega arith | false ↦ omega arith ]
  next_leads (Uploading name v c i) _ now = omega arith
  next_leads (Receiving name v coming received) Kept now = omega arith
  next_leads (Receiving name v coming received) _ now = omega arith
  next_leads (Needing name v coming received) _ now = omega arith
  next_leads (Aborting v) Kept now = omega arith
  next_leads (Aborting v) _ now = omega arith
  next_leads (Completing v meta) Kept now = omega arith
  next_leads (Completing v meta) _ now = omega arith
  next_leads (Listing bucket prefix rs) (Window others None) now = omega arith
  next_leads (Listing bucket prefix rs) (Window others (Some after)) now = omega arith
  next_leads (Listing bucket prefix rs) _ now = omega arith

  abbrev step_yet : stream.Step → ℕ
  step_yet None = 0
  step_yet (Some n) = yet (Some n.0)

  fed_leads : (stage : Stage) (bytes : List ℕ) → step_yet (stream.fed_in id block stage bytes) ≤ draws_yet stage
  fed_leads (Needing name v coming received) bytes = omega arith
  fed_leads _ bytes = omega arith

  kept_leads : (stage : Stage) → step_yet (stream.kept_in id block stage) ≤ draws_yet stage
  kept_leads (Needing name v coming received) = omega arith
  kept_leads _ = omega arith

  given_up_leads : (stage : Stage) → step_yet (stream.given_up_in id block stage) ≤ draws_yet stage
  given_up_leads (Needing name v coming received) = omega arith
  given_up_leads _ = omega arith

-- ---- what a row says

-- of entries that were drawn none has a later timestamp
entries_low : (b : ℕ) (es : List (Version × Max version_state.State)) → AllByRecursion (λ (e : Version × Max version_state.State). e.0.ts ≤ b) es → greatest_of es ≤ b
entries_low b [] a = omega arith
entries_low b (e ∷ es) a =
    let one = a.0 in
    let rest = entries_low b es a.1 in
    elim (is_aborted e.1.0) as (λ t. cond t (greatest_of es) (max e.0.ts (greatest_of es)) ≤ b) [ true ↦ rest | false ↦ omega (arith, one, rest) ]

module _ (draws : List Draw) (b : ℕ) (low : (d : Draw) → Contains draws d → d.version.ts ≤ b) where
  value_low : (value : Option AnyRow) → ((row : AnyRow) → value ≡ Some row → IsGood draws row) → greatest_ts value ≤ b
  value_low None good = omega arith
  value_low (Some (rows.Object r)) good =
      let es = map_entries r.versions in
      entries_low b es (all_weaker (λ (e : Version × Max version_state.State). HasState r e.0 e.1.0) (λ (e : Version × Max version_state.State). e.0.ts ≤ b)
      (λ e h. let d = (good (rows.Object r) refl).0 e.0 e.1.0 h in subst (λ (v : Version). v.ts ≤ b) d.version (low d.draw d.drawn)) es (entries_say r))
  value_low (Some (rows.Version r)) good = omega arith
  value_low (Some (rows.Ref r)) good = omega arith

-- ---- states

-- no clock is ahead, and no timestamp that was drawn is past the time by more than one for each request that won't draw
pub record IsNear (s : State) : Type 0 where
  pub skews : (n : ℕ) → s.world.skew_of n ≡ 0
  pub low : (d : Draw) → Contains s.draws d → d.version.ts + undrawn s.asked ≤ s.world.time + length s.asked

-- so it is then, and of the versions that were drawn; so many requests are asked at most
pub record Asks (k : ℕ) (s : State) (o : Outcome) : Type 0 where
  pub near : IsNear o.state
  pub versions : AllByRecursion (λ (v : Version). v.ts ≤ o.state.world.time + length o.state.asked) o.new_versions
  pub time : s.world.time ≤ o.state.world.time
  pub more : length s.asked ≤ length o.state.asked
  pub few : length o.state.asked ≤ length s.asked + k

-- no request is asked
abbrev pub Draws : State → Outcome → Type 0
Draws s o = Asks 0 s o

pub asks_more : (k : ℕ) (s : State) (o : Outcome) → Draws s o → Asks k s o
asks_more k s o d = let few = d.few in record { near = d.near; versions = d.versions; time = d.time; more = d.more; few = omega (arith, few) }

-- the same draws, and requests that may draw less
near_on : (s t : State) → IsNear s → s.world.time ≤ t.world.time → ((n : ℕ) → t.world.skew_of n ≡ 0) → undrawn t.asked + length s.asked ≤ undrawn s.asked + length t.asked → ((d : Draw) → Contains t.draws d → Contains s.draws d) → IsNear t
near_on s t near time skews fewer same = record {
  skews = skews;
  low = λ d c. let was = near.low d (same d c) in omega (arith, was, time, fewer);
}

-- no draw, and none is begun
calm_draws : (s : State) (o : Outcome) → IsNear s → o.new_versions ≡ [] → o.state.asked ≡ s.asked → o.state.draws ≡ s.draws → s.world.time ≤ o.state.world.time → ((n : ℕ) → o.state.world.skew_of n ≡ 0) → Draws s o
calm_draws s o near none asked draws time skews =
    let lengths = ap (λ (as' : List Asked). length as') asked in
    let counts = ap undrawn asked in
    record {
      near = near_on s o.state near time skews (omega (arith, lengths, counts)) (λ d c. subst (λ (ds : List Draw). Contains ds d) draws c);
      versions = subst (λ (vs : List Version). AllByRecursion (λ (v : Version). v.ts ≤ o.state.world.time + length o.state.asked) vs) (sym none) tt;
      time = time;
      more = omega (arith, lengths);
      few = omega (arith, lengths);
    }

-- a step that puts no clock ahead
even_skews : (w : World) (m : Moving) → IsEven m.step → ((n : ℕ) → w.skew_of n ≡ 0) → (n : ℕ) → (next any_join words w m).skew_of n ≡ 0
even_skews w m even h n = let a = step_adds any_join words w m.step m.choice even in ap (λ o. skewed o w.skew_of n) a.skews ∙ h n

doing_near : (s : State) (m : Moving) → IsEven m.step → IsNear s → IsNear (doing s m)
doing_near s m even near = near_on s (doing s m) near (omega arith) (even_skews s.world m even near.skews) (omega arith) (λ d c. c)

-- ---- a request goes on

module _ (s : State) (q : ℕ) (a : Asked) (at : numbered s.asked q ≡ Some a) (near : IsNear s) where
  -- draws so that what the request goes on to leaves room for the others
  abbrev Fit : ℕ → List Draw → Type 0
  Fit left ds = (d : Draw) → Contains ds d → d.version.ts + undrawn s.asked + left ≤ s.world.time + length s.asked + yet a.flow

  none_fit : (left : ℕ) → Fit left []
  none_fit left d c = absurd (none_in d c)

  drawn_versions : (b : ℕ) (ds : List Draw) → AllByRecursion (λ (d : Draw). d.version.ts ≤ b) ds → AllByRecursion (λ (v : Version). v.ts ≤ b) (versions_drawn ds)
  drawn_versions b [] all = tt
  drawn_versions b (d ∷ ds) all = (all.0, drawn_versions b ds all.1)

  set_low : (flow : Option Flow) → yet flow ≤ yet a.flow → (d : Draw) → Contains s.draws d → d.version.ts + undrawn (slice_set s.asked (q - 1) (record a { flow = flow })) ≤ s.world.time + length s.asked
  set_low flow low d c = let was = near.low d c in let set = undrawn_set s.asked q a (record a { flow = flow }) at in omega (arith, was, set, low)

  new_low : (flow : Option Flow) (ds : List Draw) → Fit (yet flow) ds → (d : Draw) → Contains ds d → d.version.ts + undrawn (slice_set s.asked (q - 1) (record a { flow = flow })) ≤ s.world.time + length s.asked
  new_low flow ds fit d c = let one = fit d c in let set = undrawn_set s.asked q a (record a { flow = flow }) at in omega (arith, one, set)

  -- one after the other
  from_list : {P : Draw → Type 0} (ds : List Draw) → ((d : Draw) → Contains ds d → P d) → AllByRecursion P ds
  from_list [] h = tt
  from_list (d ∷ ds) h = (h d (0, omega arith, refl), from_list ds (λ e c. h e (suc c.0, omega (arith, c.1), c.2)))

  goes_draws : (ds : List Draw) (flow : Flow) (phase : Phase AnyRow) → yet (Some flow) ≤ yet a.flow → Fit (yet (Some flow)) ds → Draws s (goes s q a ds flow phase)
  goes_draws ds flow phase low fit =
      let set : Asked = record a { flow = Some flow } in
      let as' = slice_set s.asked (q - 1) set in
      let w = next any_join words s.world (phases q phase) in
      let lengths = length_set s.asked (q - 1) set in
      record {
        near = record {
          skews = even_skews s.world (phases q phase) tt near.skews;
          low = λ d c. elim (Contains-append_cases ds s.draws d c) [
            | inl new ↦ (let one = new_low (Some flow) ds fit d new in omega (arith, one, lengths))
            | inr old ↦ (let was = set_low (Some flow) low d old in omega (arith, was, lengths))
          ];
        };
        versions = drawn_versions (w.time + length as') ds (from_list ds (λ d c. let one = new_low (Some flow) ds fit d c in omega (arith, one, lengths)));
        time = omega arith;
        more = omega (arith, lengths);
        few = omega (arith, lengths);
      }

  -- it draws nothing
  set_draws : (o : Outcome) (flow : Option Flow) → yet flow ≤ yet a.flow → o.new_versions ≡ [] → o.state.asked ≡ slice_set s.asked (q - 1) (record a { flow = flow }) → o.state.draws ≡ s.draws → s.world.time ≤ o.state.world.time →
      ((n : ℕ) → o.state.world.skew_of n ≡ 0) → Draws s o
  set_draws o flow low none asked draws time skews =
      let set : Asked = record a { flow = flow } in
      let lengths = ap (λ (as' : List Asked). length as') asked ∙ length_set s.asked (q - 1) set in
      let counts = ap undrawn asked in
      let one = undrawn_set s.asked q a set at in
      record {
        near = near_on s o.state near time skews (omega (arith, lengths, counts, one, low)) (λ d c. subst (λ (ds : List Draw). Contains ds d) draws c);
        versions = subst (λ (vs : List Version). AllByRecursion (λ (v : Version). v.ts ≤ o.state.world.time + length o.state.asked) vs) (sym none) tt;
        time = time;
        more = omega (arith, lengths);
        few = omega (arith, lengths);
      }

  takes_draws : (ds : List Draw) (st : FlowStep) → leads st ≤ yet a.flow → Fit (leads st) ds → Draws s (takes s q a ds st)
  takes_draws ds (More flow phase) low fit = goes_draws ds flow phase low fit
  takes_draws ds (Need flow wanted) low fit = set_draws (takes s q a ds (Need flow wanted)) (Some flow) low refl refl refl (omega arith) near.skews
  takes_draws ds (Wait flow) low fit = set_draws (takes s q a ds (Wait flow)) (Some flow) low refl refl refl (omega arith) near.skews
  takes_draws ds (End end) low fit = set_draws (takes s q a ds (End end)) None (omega arith) refl refl refl (omega arith) (even_skews s.world (plainly (step.Close q)) tt near.skews)

  hears_draws : (o : stream.Step) → step_yet q 0 o ≤ yet a.flow → Draws s (hears s q a o)
  hears_draws None low = calm_draws s (silent s) near refl refl refl (omega arith) near.skews
  hears_draws (Some n) low = goes_draws [] n.0 n.1 low (none_fit (yet (Some n.0)))

-- a write draws once it has read what its object's row says
module _ (s : State) (q : ℕ) (a : Asked) (at : numbered s.asked q ≡ Some a) (near : IsNear s) where
  drawn_fits : (flow : Flow) (value : Option AnyRow) (d : Draw) → a.flow ≡ Some flow → draws_yet flow.stage ≡ 1 → ((row : AnyRow) → value ≡ Some row → IsGood s.draws row) → d.version.ts ≡ max (clock s.world a.node) (suc (greatest_ts value)) →
      d.version.ts + undrawn s.asked + 0 ≤ s.world.time + length s.asked + yet a.flow
  drawn_fits flow value d flow_is one good is =
      let b : ℕ = (s.world.time + length s.asked) - undrawn s.asked in
      let few = undrawn_few s.asked in
      let low = value_low s.draws b (λ e c. let was = near.low e c in omega (arith, was)) value good in
      let now : clock s.world a.node ≡ s.world.time = (let e = near.skews a.node in omega (arith, e)) in
      let here : yet a.flow ≡ 1 = ap yet flow_is ∙ one in
      omega (arith, few, low, now, here, is)

-- what a phase gave is of versions that were drawn
abbrev GivesDrawn : List Draw → PhaseEnd AnyRow → Type 0
GivesDrawn draws (Answered value) = (row : AnyRow) → value ≡ Some row → IsGood draws row
GivesDrawn draws _ = ⊤

module _ (s : State) (q : ℕ) (a : Asked) (at : numbered s.asked q ≡ Some a) (near : IsNear s) where
  abbrev seeing : PhaseEnd AnyRow → State
  seeing end = record s { saw = record { request = q; end = end } ∷ s.saw }

  seen : (end : PhaseEnd AnyRow) → IsNear (seeing end)
  seen end = record { skews = near.skews; low = near.low }

  module _ (id block : ℕ) where
    abbrev flow_so : Stage → Flow
    flow_so stage = record { id = id; block = block; stage = stage }

    abbrev StageDraws : Stage → PhaseEnd AnyRow → Type 0
    StageDraws stage end = (now : ℕ) → now ≡ clock s.world a.node → a.flow ≡ Some (flow_so stage) → GivesDrawn s.draws end → Draws (seeing end) (takes (seeing end) q a (draws_of s q block stage end now) (flow_goes_on id block stage end now))

    still : (stage : Stage) (end : PhaseEnd AnyRow) (now : ℕ) → a.flow ≡ Some (flow_so stage) → Draws (seeing end) (takes (seeing end) q a [] (flow_goes_on id block stage end now))
    still stage end now flow_is =
        let st = flow_goes_on id block stage end now in
        let low = next_leads id block stage end now in
        let here = ap yet flow_is in
        takes_draws (seeing end) q a at (seen end) [] st (omega (arith, low, here)) (none_fit (seeing end) q a at (seen end) (leads st))

    stage_draws : (stage : Stage) (end : PhaseEnd AnyRow) → StageDraws stage end
    stage_draws (Drawing name w) (Answered value) now now_is flow_is gives =
        let st = writes id block name (drawn id value now) w in
        let d : Draw = record { request = q; name = name; version = drawn q value now; wish = w; block = block; moment = length s.history } in
        let lead = writes_lead id block name (drawn id value now) w in
        let fits = drawn_fits s q a at near (flow_so (Drawing name w)) value d flow_is refl gives (ap (λ (n : ℕ). max n (suc (greatest_ts value))) now_is) in
        takes_draws (seeing (Answered value)) q a at (seen (Answered value)) (d ∷ []) st (omega (arith, lead))
        (λ e c. subst (λ (e : Draw). e.version.ts + undrawn s.asked + leads st ≤ s.world.time + length s.asked + yet a.flow) (only d e c) (omega (arith, lead, fits)))
    stage_draws (Drawing name w) (Window others reach) now now_is flow_is gives = still (Drawing name w) (Window others reach) now flow_is
    stage_draws (Drawing name w) Kept now now_is flow_is gives = still (Drawing name w) Kept now flow_is
    stage_draws (Drawing name w) (Block bytes) now now_is flow_is gives = still (Drawing name w) (Block bytes) now flow_is
    stage_draws (Uploading name v c i) end now now_is flow_is gives = still (Uploading name v c i) end now flow_is
    stage_draws (Receiving name v coming received) end now now_is flow_is gives = still (Receiving name v coming received) end now flow_is
    stage_draws (Needing name v coming received) end now now_is flow_is gives = still (Needing name v coming received) end now flow_is
    stage_draws (Aborting v) end now now_is flow_is gives = still (Aborting v) end now flow_is
    stage_draws (Completing v meta) end now now_is flow_is gives = still (Completing v meta) end now flow_is
    stage_draws (Looking name aim) end now now_is flow_is gives = still (Looking name aim) end now flow_is
    stage_draws (Opening v meta aim) end now now_is flow_is gives = still (Opening v meta aim) end now flow_is
    stage_draws (Gathering v meta aim left body) end now now_is flow_is gives = still (Gathering v meta aim left body) end now flow_is
    stage_draws (Listing bucket prefix rs) end now now_is flow_is gives = still (Listing bucket prefix rs) end now flow_is

  follows_draws : (flow : Option Flow) (end : PhaseEnd AnyRow) → a.flow ≡ flow → GivesDrawn s.draws end → Draws s (follows s q a end flow)
  follows_draws None end flow_is gives = calm_draws s (silent s) near refl refl refl (omega arith) near.skews
  follows_draws (Some flow) end flow_is gives =
      let d = stage_draws flow.id flow.block flow.stage end (clock s.world a.node) refl flow_is gives in
      record { near = d.near; versions = d.versions; time = d.time; more = d.more; few = d.few }

follow_draws : (s : State) (q : ℕ) (o : Option Asked) (end : PhaseEnd AnyRow) → numbered s.asked q ≡ o → IsNear s → GivesDrawn s.draws end → Draws s (follow s q o end)
follow_draws s q None end at near gives = calm_draws s (silent s) near refl refl refl (omega arith) near.skews
follow_draws s q (Some a) end at near gives = follows_draws s q a at near a.flow end refl gives

goes_on_draws : (s : State) (ends : List (Ended AnyRow)) → IsNear s → AllByRecursion (λ (e : Ended AnyRow). GivesDrawn s.draws e.how) ends → Draws s (goes_on s ends)
goes_on_draws s [] near gives = calm_draws s (silent s) near refl refl refl (omega arith) near.skews
goes_on_draws s (e ∷ es) near gives = follow_draws s e.request (numbered s.asked e.request) e.how refl near gives.0

-- ---- a client was heard

heard_draws : (s : State) (q : ℕ) (says : Flow → stream.Step) → ((flow : Flow) → step_yet q 0 (says flow) ≤ draws_yet flow.stage) → (o : Option Asked) → numbered s.asked q ≡ o → IsNear s → Draws s (heard s q says o)
heard_draws s q says low None at near = calm_draws s (silent s) near refl refl refl (omega arith) near.skews
heard_draws s q says low (Some a) at near = by_flow a.flow refl
  where
    by_flow : (flow : Option Flow) → a.flow ≡ flow → Draws s (heard_in s q says a flow)
    by_flow None flow_is = calm_draws s (silent s) near refl refl refl (omega arith) near.skews
    by_flow (Some flow) flow_is = let one = low flow in let here = ap yet flow_is in hears_draws s q a at near (says flow) (omega (arith, one, here))

-- ---- requests that begin

opened_draws : (s : State) (n : ℕ) (o : Order) → IsNear s → Asks 1 s (opened s n o)
opened_draws s n o near =
    let number = suc (length s.world.requests) in
    let opens = plainly (step.Open n) in
    let here : State = doing s opens in
    let first = started o number s.block in
    let one = doing_near s opens tt near in
    let two = doing_near here (phases number first.1) tt one in
    let new = new_request n o first.0 in
    let more = undrawn_more s.asked new in
    let lengths = length-append s.asked (new ∷ []) in
    let few = one_yet new.flow in
    record {
      near = record { skews = two.skews; low = λ d c. let was = near.low d c in omega (arith, was, more, lengths, few) };
      versions = tt;
      time = omega arith;
      more = omega (arith, lengths);
      few = omega (arith, lengths);
    }

begins_draws : (s : State) (n : ℕ) (o : Order) → IsNear s → Asks 1 s (begins s n o)
begins_draws s n o near = by_test (is_member_at layouts s.world n) (are_buckets s.buckets (buckets_of o))
  where
    refused : (reason : Refusal Cut) → Asks 1 s (refusal s reason)
    refused reason = asks_more 1 s (refusal s reason) (calm_draws s (refusal s reason) near refl refl refl (omega arith) near.skews)

    by_test : (x y : Bool) → Asks 1 s (if x then (if y then opened s n o else refusal s NoSuchBucket) else refusal s NotMember)
    by_test true true = opened_draws s n o near
    by_test true false = refused NoSuchBucket
    by_test false y = refused NotMember

-- ---- deliveries and acts

module _ {H : Deed → Type 0} (every : EveryWorld H) where
  -- the delivery fits, whatever its request then begins
  abbrev pub DeliveryFits : State → ℕ → Type 0
  DeliveryFits s m = FitIn H s.world (plainly (step.Deliver m) ∷ [])

  pub delivers_draws : (s : State) (m : ℕ) → DeliveryFits s m → IsSound H s → IsNear s → Draws s (delivers s m)
  delivers_draws s m fits sound near =
      let d : Moving = plainly (step.Deliver m) in
      let now : State = doing s d in
      let calm = is_calm every s d tt sound in
      let sound_now : IsSound H now = step_sound s d sound (tt, tt, tt, fits.0.1, tt) fits.0.2 (All-nil (IsGood s.draws)) (calm_fine s (effect s d) sound calm) in
      let near_now = doing_near s d tt near in
      let o = goes_on_draws now (effect s d).ends near_now (all_weaker (λ (e : Ended AnyRow). IsEnd H now.asked now.draws now.history (sights now) now.world.kept now.world.reads e.request e.how × Rests now e.request) (λ (e : Ended AnyRow). GivesDrawn now.draws e.how) (λ e h. gives now sound_now e.request e.how h.0) (effect s d).ends (calm_ends s (effect s d) sound calm)) in
      let time = o.time in
      record { near = o.near; versions = o.versions; time = omega (arith, time); more = o.more; few = o.few }
    where
      gives : (now : State) → IsSound H now → (q : ℕ) (end : PhaseEnd AnyRow) → IsEnd H now.asked now.draws now.history (sights now) now.world.kept now.world.reads q end → GivesDrawn now.draws end
      gives now sound q (Answered value) h = given_good every now q sound value h
      gives now sound q (Window others reach) h = tt
      gives now sound q Kept h = tt
      gives now sound q (Block bytes) h = tt

  versions_later : (b c : ℕ) (vs : List Version) → b ≤ c → AllByRecursion (λ (v : Version). v.ts ≤ b) vs → AllByRecursion (λ (v : Version). v.ts ≤ c) vs
  versions_later b c vs low all = all_weaker (λ (v : Version). v.ts ≤ b) (λ (v : Version). v.ts ≤ c) (λ v h. omega (arith, low, h)) vs all

  drains_draws : (n : ℕ) (s : State) → FitIn H s.world (drains n s).moves → IsSound H s → IsNear s → Draws s (drains n s)
  drains_draws zero s fits sound near = calm_draws s (silent s) near refl refl refl (omega arith) near.skews
  drains_draws (suc n) s fits sound near =
      elim (undelivered s.world) as (λ o. FitIn H s.world (elim o as (λ o. Outcome) [ None ↦ silent s | Some m ↦ let o = delivers s m in then_drains o (drains n o.state) ]).moves →
      Draws s (elim o as (λ o. Outcome) [ None ↦ silent s | Some m ↦ let o = delivers s m in then_drains o (drains n o.state) ])) [
        | None ↦ λ fits. calm_draws s (silent s) near refl refl refl (omega arith) near.skews
        | Some m ↦ λ fits.
            let first : Outcome = delivers s m in
            let parts = in_parts H s.world first.moves (drains n first.state).moves fits in
            let one = delivers_draws s m (parts.0.0, tt) sound near in
            let rest = drains_draws n first.state (subst (λ (w : World). FitIn H w (drains n first.state).moves) (delivers_lead s m) parts.1) (delivers_keeps every s m parts.0 sound) one.near in
            let t = one.time in
            let u = rest.time in
            let k = one.more in
            let l = rest.more in
            let x = one.few in
            let y = rest.few in
            let last : State = (drains n first.state).state in
            record {
              near = record { skews = rest.near.skews; low = rest.near.low };
              versions = all_append (λ (v : Version). v.ts ≤ last.world.time + length last.asked) first.new_versions (drains n first.state).new_versions
                  (versions_later (first.state.world.time + length first.state.asked) (last.world.time + length last.asked) first.new_versions (omega (arith, u, l)) one.versions) rest.versions;
              time = omega (arith, t, u);
              more = omega (arith, k, l);
              few = omega (arith, x, y);
            }
      ] fits

  -- what a streamed upload makes of its bytes was drawn for its stream
  module _ (s : State) (sound : IsSound H s) (near : IsNear s) (q : ℕ) where
    abbrev Low : Draw → Type 0
    Low d = d.version.ts + undrawn s.asked ≤ s.world.time + length s.asked

    stage_fills : (a : Asked) (block : ℕ) (stage : Stage) → IsStage H s.draws s.history q a stage → (d : Draw) → Contains (fills_of s q block stage) d → Low d
    stage_fills a block (Needing name version coming received) is d c =
        let w = is.1 in
        subst Low (only _ d c) (near.low (record { request = q; name = name; version = version; wish = wish.Stream coming; block = w.block; moment = w.moment }) w.drawn)
    stage_fills a block (Drawing name w) is d c = absurd (none_in d c)
    stage_fills a block (Uploading name v content i) is d c = absurd (none_in d c)
    stage_fills a block (Receiving name v coming received) is d c = absurd (none_in d c)
    stage_fills a block (Aborting v) is d c = absurd (none_in d c)
    stage_fills a block (Completing v meta) is d c = absurd (none_in d c)
    stage_fills a block (Looking name aim) is d c = absurd (none_in d c)
    stage_fills a block (Opening v meta aim) is d c = absurd (none_in d c)
    stage_fills a block (Gathering v meta aim left body) is d c = absurd (none_in d c)
    stage_fills a block (Listing bucket prefix rs) is d c = absurd (none_in d c)

    flow_fills : (a : Asked) → numbered s.asked q ≡ Some a → (flow : Option Flow) → a.flow ≡ flow → (d : Draw) → Contains (fills_in s q flow) d → Low d
    flow_fills a at None flow_is d c = absurd (none_in d c)
    flow_fills a at (Some flow) flow_is d c = stage_fills a flow.block flow.stage (sound.stages q a flow at flow_is).1 d c

    fills_low : (o : Option Asked) → numbered s.asked q ≡ o → (d : Draw) → Contains (fills_at s q o) d → Low d
    fills_low None at d c = absurd (none_in d c)
    fills_low (Some a) at d c = flow_fills a at a.flow refl d c

    filled_near : IsNear (record s { draws = fills_at s q (numbered s.asked q) ++ s.draws })
    filled_near = record {
      skews = near.skews;
      low = λ d c. elim (Contains-append_cases (fills_at s q (numbered s.asked q)) s.draws d c) [ inl new ↦ fills_low (numbered s.asked q) refl d new | inr old ↦ near.low d old ];
    }

  installed_near : (s : State) (first : Layout) → IsNear s → Draws s (acted s (installs first))
  installed_near s first near =
      let e = installing any_join words s.world first in
      let a = trio_adds any_join words s.world 0 0 0 first (λ (roles : List Role). roles) in
      calm_draws s (acted s (installs first)) near refl refl refl (omega arith) (λ n. ap (λ o. skewed o s.world.skew_of n) a.skews ∙ near.skews n)

  pub act_draws : (s : State) (a : Act) → IsEvenAct a → FitIn H s.world (acted s a).moves → IsSound H s → IsNear s → Asks (opens_in a) s (acted s a)
  act_draws s (moves m) even fits sound near = asks_more (opens_in (moves m)) s (acted s (moves m)) (calm_draws s (acted s (moves m)) near refl refl refl (omega arith) (even_skews s.world m even near.skews))
  act_draws s (installs first) even fits sound near = installed_near s first near
  act_draws s (asks n o) even fits sound near = begins_draws s n o near
  act_draws s (delivery m) even fits sound near = delivers_draws s m (fits.0, tt) sound near
  act_draws s (drain n) even fits sound near = drains_draws n s fits sound near
  act_draws s forgets even fits sound near = calm_draws s (acted s forgets) near refl refl refl (omega arith) near.skews
  act_draws s (takes_end n) even fits sound near = calm_draws s (acted s (takes_end n)) near refl refl refl (omega arith) near.skews
  act_draws s (adds name) even fits sound near = calm_draws s (acted s (adds name)) near refl refl refl (omega arith) near.skews
  act_draws s (cuts block) even fits sound near = calm_draws s (acted s (cuts block)) near refl refl refl (omega arith) near.skews
  act_draws s (feeds q bytes) even fits sound near = heard_draws s q (λ flow. stream.fed flow bytes) (λ flow. fed_leads flow.id flow.block flow.stage bytes) (numbered s.asked q) refl near
  act_draws s (keeps q) even fits sound near =
      let filled : State = record s { draws = fills_at s q (numbered s.asked q) ++ s.draws } in
      let d = heard_draws filled q stream.finished (λ flow. kept_leads flow.id flow.block flow.stage) (numbered s.asked q) refl (filled_near s sound near q) in
      record { near = d.near; versions = d.versions; time = d.time; more = d.more; few = d.few }
  act_draws s (gives_up q) even fits sound near = heard_draws s q stream.given_up (λ flow. given_up_leads flow.id flow.block flow.stage) (numbered s.asked q) refl near
