-- In a run of acts whose orders and bytes are in range, where what phases gave fits, each request waits so that it fits, and all that is stored has a spelling.
use Rattle.std.specs.Prelude.{◌≡◌, ◌<◌, ◌^◌, ◌-◌, ⊤, ℕ, zero, suc, Bool, true, false, if◌then◌else◌, Option, Some, None, List, [], ◌∷◌, ◌++◌, length, slice_set, refl}
use Rattle.std.specs.List.{AllByRecursion, Contains}
use Rattle.std.specs.Option.{option_and_then}
use Rattle.std.proofs.Common.{ap, sym, subst, ◌∙◌, inl, inr, arith}
use Rattle.crdt_core.proofs.Each.{all_append}
use Rattle.crdt_rows.specs.declared.any_row.AnyRow.{AnyRow}
use Rattle.layout_roles.specs.declared.cut.Cut.{Cut}
use Rattle.row_codec.specs.Range.{version_in_range}
use Rattle.wire_messages.specs.declared.phase.Phase.{Phase}
use Rattle.wire_messages.specs.declared.phase.Phase.TheVariants.{Read, Range, Store, Block as Fetch}
use Rattle.wire_messages.specs.declared.phase.PhaseEnd.{PhaseEnd}
use Rattle.wire_messages.specs.declared.phase.PhaseEnd.TheVariants.{Row, Window, Kept, Block}
use Rattle.cluster_machine.specs.declared.step.Refusal.{Refusal}
use Rattle.cluster_machine.specs.declared.step.Refusal.TheVariants.{NotMember, NoSuchBucket}
use Rattle.cluster_machine.specs.declared.step.Step.TheVariants as step
use Rattle.cluster_machine.specs.Layouts.{layouts}
use Rattle.cluster_machine.specs.Node.{Ended}
use Rattle.cluster_machine.specs.World.{clock, numbered, undelivered, is_member_at}
use Rattle.machine_origins.proofs.Places.{numbered_set_cases, numbered_push_cases}
use Rattle.machine_origins.specs.Origins.{stored_by}
use Rattle.flow_model.specs.declared.order.Order.{Order}
use Rattle.flow_model.specs.declared.flow.Name.{Name}
use Rattle.flow_model.specs.declared.flow.Wish.{Wish}
use Rattle.flow_model.specs.declared.flow.Wish.TheVariants as wish
use Rattle.flow_model.specs.declared.flow.Stage.{Stage}
use Rattle.flow_model.specs.declared.flow.Stage.TheVariants.{Drawing, Uploading, Receiving, Needing, Aborting, Completing, Looking, Opening, Gathering, Listing}
use Rattle.flow_model.specs.declared.flow.Flow.{Flow}
use Rattle.flow_model.specs.declared.flow.FlowStep.{FlowStep}
use Rattle.flow_model.specs.declared.flow.FlowStep.TheVariants.{More, Need, Wait, End}
use Rattle.flow_model.specs.Blocks.{is_long}
use Rattle.flow_model.specs.Flow.{started}
use Rattle.flow_model.specs.Next.{drawn, more, writes, completes, stores, goes_on as flow_goes_on}
use Rattle.flow_model.specs.Rows.{uploading}
use Rattle.flow_model.specs.Streams as stream
use Rattle.phase_limits.specs.Phases.{Held}
use Rattle.store_model.specs.Orders.{buckets_of}
use Rattle.store_model.specs.Run.{World, Moving, Asked, Draw, State, Outcome, start, silent, refusal, plainly, effect, doing, are_buckets, is_open_at, needed, need_at, phases, new_request, opened, begins, draws_of, takes, follows, follow, goes_on, delivers, then_drains, drains, hears, heard_in, heard, fills_at}
use Rattle.store_model.specs.Acts.{Act, moves, installs, asks, delivery, drain, forgets, takes as takes_end, adds, cuts, feeds, keeps, gives_up, acted, after_acts, IsLawfulAct, AreLawfulActs, ActsFit}
use Rattle.store_model.proofs.Leads.{delivers_lead}
use Rattle.store_laws.proofs.Acts.{delivers_keeps, act_keeps, outer_calm}
use Rattle.store_laws.proofs.Deeds.{Deed}
use Rattle.store_laws.proofs.Elements.{no_entry}
use Rattle.store_laws.proofs.Every.{EveryWorld}
use Rattle.store_laws.proofs.Hashing.{FitIn, fit_in, in_parts}
use Rattle.store_laws.proofs.Sound.{IsSound}
use Rattle.store_laws.proofs.Starting.{start_sound}
use Rattle.write_limits.specs.Acting.{BlockFits, ActFits, GaveFits, FlowFits, WaitFitting, StoreSingle, ActsStoreSingle}
use Rattle.write_limits.specs.Fitting.{OrderFits, DrawsInRange, StoresSingle, AreSingle, GoesFit, HeardFits}
use Rattle.write_limits.proofs.Going.{begins as begins_fit, goes as goes_fit, fed_so, kept_so, given_up_so}
use Rattle.write_limits.proofs.Growing.{Grows, takes_grow, drains_grow, acts_grow}
use Rattle.write_limits.proofs.Within.{GoesWithin, HeardWithin, begins_within, goes_within, fed_within, kept_within, given_up_within}

-- all that a run does
abbrev pub Any : Deed → Type 0
Any d = ⊤

module _ (h : Held) (low : h.bytes < 2 ^ 64) where
  abbrev Waits : List Asked → Type 0
  Waits asked = WaitFitting h asked

  -- requests wait so that they fit, with blocks of a size that fits, and all that was stored has a spelling
  pub record Fits (o : Outcome) : Type 0 where
    pub waits : Waits o.state.asked
    pub block : BlockFits o.state.block
    pub stored : StoreSingle o.moves

  gave_less : (s t : State) → Grows s t → GaveFits h t → GaveFits h s
  gave_less s t grows gave = record { saw = λ x c. gave.saw x (grows.saw x c); draws = λ d c. gave.draws d (grows.draws d c) }

  still : (s : State) → Waits s.asked → BlockFits s.block → Fits (silent s)
  still s waits block = record { waits = waits; block = block; stored = tt }

  -- what a phase stores is so of the step that begins it
  step_single : (p q : ℕ) (phase : Phase AnyRow) → StoresSingle p phase → AreSingle (stored_by (phases q phase).step)
  step_single p q (Read table position key) f = tt
  step_single p q (Range position prefix after) f = tt
  step_single p q (Store rs) f = f
  step_single p q (Fetch hash) f = tt

  -- ---- a request goes on

  module _ (s : State) (q : ℕ) (a : Asked) (at : numbered s.asked q ≡ Some a) (waits : Waits s.asked) (block : BlockFits s.block) where
    set_waits : (new : Option Flow) → ((flow : Flow) → new ≡ Some flow → FlowFits h flow) → Waits (slice_set s.asked (q - 1) (record a { flow = new }))
    set_waits new fits p o flow there is = elim (numbered_set_cases s.asked q p a (record a { flow = new }) o at there) [
      | inl e ↦ fits flow (ap (λ (x : Asked). x.flow) e.1 ∙ is)
      | inr was ↦ waits p o flow was is
    ]

    flow_is : (new flow : Flow) → FlowFits h new → Some new ≡ Some flow → FlowFits h flow
    flow_is new flow f e = let same : new ≡ flow = cc in subst (FlowFits h) same f

    sized : (size : ℕ) (flow : Flow) → BlockFits size → flow.block ≡ size → BlockFits flow.block
    sized size flow f e = subst BlockFits (sym e) f

    takes_fit : (ds : List Draw) (size : ℕ) (st : FlowStep) → BlockFits size → GoesFit st → GoesWithin h size st → Fits (takes s q a ds st)
    takes_fit ds size (More flow phase) fits f within = record {
      waits = set_waits (Some flow) (λ g e. flow_is flow g (record { block = sized size flow fits within.1; stage = f.0; within = within.0 }) e);
      block = block;
      stored = (step_single flow.id q phase f.1, tt);
    }
    takes_fit ds size (Need flow wanted) fits f within = record {
      waits = set_waits (Some flow) (λ g e. flow_is flow g (record { block = sized size flow fits within.1; stage = f; within = within.0 }) e);
      block = block;
      stored = tt;
    }
    takes_fit ds size (Wait flow) fits f within = record {
      waits = set_waits (Some flow) (λ g e. flow_is flow g (record { block = sized size flow fits within.1; stage = f; within = within.0 }) e);
      block = block;
      stored = tt;
    }
    takes_fit ds size (End end) fits f within = record { waits = set_waits None (λ g e. cc); block = block; stored = (tt, tt) }

    hears_fit : (size : ℕ) (o : stream.Step) → BlockFits size → HeardFits o → HeardWithin h size o → Fits (hears s q a o)
    hears_fit size None fits f within = still s waits block
    hears_fit size (Some n) fits f within = takes_fit [] size (More n.0 n.1) fits f within

  -- ---- a phase ended

  -- what a write draws is among the draws then
  drawn_there : (s : State) (q : ℕ) (a : Asked) (d : Draw) (id block : ℕ) (name : Name) (w : Wish) → Contains (takes s q a (d ∷ []) (writes id block name d.version w)).state.draws d
  drawn_there s q a d id block name wish.Marker = (0, omega arith, refl)
  drawn_there s q a d id block name (wish.Stream coming) = (0, omega arith, refl)
  drawn_there s q a d id block name (wish.Content c) =
      elim (is_long c.body) as (λ b. Contains (takes s q a (d ∷ []) (elim b as (λ b. FlowStep) [ true ↦ more id block (Uploading name d.version c 0) (stores (uploading name d.version)) | false ↦ completes id block name d.version (wish.Content c) ])).state.draws d) [
        | true ↦ (0, omega arith, refl)
        | false ↦ (0, omega arith, refl)
      ]

  module _ (s : State) (q : ℕ) (a : Asked) (at : numbered s.asked q ≡ Some a) (waits : Waits s.asked) (block : BlockFits s.block) where
    abbrev seeing : PhaseEnd AnyRow → State
    seeing end = record s { saw = record { request = q; end = end } ∷ s.saw }

    module _ (flow : Flow) (flow_is : a.flow ≡ Some flow) (own : flow.id ≡ q) where
      -- what it draws is in range
      draws_so : (stage : Stage) (end : PhaseEnd AnyRow) (now : ℕ) → GaveFits h (takes (seeing end) q a (draws_of s q flow.block stage end now) (flow_goes_on flow.id flow.block stage end now)).state → DrawsInRange flow.id now stage end
      draws_so (Drawing name w) (Row value) now gave =
          let there : Draw → Type 0 = λ d. version_in_range d.version ≡ true in
          let d : ℕ → Draw = λ id. record { request = q; name = name; version = drawn id value now; wish = w; block = flow.block; moment = length s.history } in
          let as_q = subst (λ (i : ℕ). GaveFits h (takes (seeing (Row value)) q a (d q ∷ []) (writes flow.id flow.block name (drawn i value now) w)).state) own gave in
          subst (λ (i : ℕ). version_in_range (drawn i value now) ≡ true) (sym own) (as_q.draws (d q) (drawn_there (seeing (Row value)) q a (d q) flow.id flow.block name w))
      draws_so (Drawing name w) (Window rs reach) now gave = tt
      draws_so (Drawing name w) Kept now gave = tt
      draws_so (Drawing name w) (Block bytes) now gave = tt
      draws_so (Uploading name v c i) end now gave = tt
      draws_so (Receiving name v coming received) end now gave = tt
      draws_so (Needing name v coming received) end now gave = tt
      draws_so (Aborting v) end now gave = tt
      draws_so (Completing v meta) end now gave = tt
      draws_so (Looking name aim) end now gave = tt
      draws_so (Opening v meta aim) end now gave = tt
      draws_so (Gathering v meta aim left body) end now gave = tt
      draws_so (Listing bucket prefix rs) end now gave = tt

      flow_fits : (end : PhaseEnd AnyRow) → GaveFits h (follows s q a end (Some flow)).state → Fits (follows s q a end (Some flow))
      flow_fits end gave =
          let now = clock s.world a.node in
          let st = flow_goes_on flow.id flow.block flow.stage end now in
          let f = waits q a flow at flow_is in
          let seen = gave.saw (record { request = q; end = end }) ((takes_grow (seeing end) q a (draws_of s q flow.block flow.stage end now) st).saw (record { request = q; end = end }) (0, omega arith, refl)) in
          takes_fit (seeing end) q a at waits block (draws_of s q flow.block flow.stage end now) flow.block st f.block
          (goes_fit flow.id flow.block h low f.block.1 flow.stage end now f.within seen.1 f.stage seen.0 (draws_so flow.stage end now gave))
          (goes_within h flow.block flow.id flow.stage end now f.block.0 f.within seen.1)

  -- the numbers of flows are those of their requests
  abbrev pub OwnFlows : List Asked → Type 0
  OwnFlows asked = (q : ℕ) (a : Asked) (flow : Flow) → numbered asked q ≡ Some a → a.flow ≡ Some flow → flow.id ≡ q

  module _ (s : State) (own : OwnFlows s.asked) (waits : Waits s.asked) (block : BlockFits s.block) where
    follows_fit : (q : ℕ) (a : Asked) → numbered s.asked q ≡ Some a → (end : PhaseEnd AnyRow) (flow : Option Flow) → a.flow ≡ flow → GaveFits h (follows s q a end flow).state → Fits (follows s q a end flow)
    follows_fit q a at end None flow_is gave = still s waits block
    follows_fit q a at end (Some flow) flow_is gave = flow_fits s q a at waits block flow flow_is (own q a flow at flow_is) end gave

    follow_fits : (q : ℕ) (o : Option Asked) (end : PhaseEnd AnyRow) → numbered s.asked q ≡ o → GaveFits h (follow s q o end).state → Fits (follow s q o end)
    follow_fits q None end at gave = still s waits block
    follow_fits q (Some a) end at gave = follows_fit q a at end a.flow refl gave

    goes_on_fits : (ends : List (Ended AnyRow)) → GaveFits h (goes_on s ends).state → Fits (goes_on s ends)
    goes_on_fits [] gave = still s waits block
    goes_on_fits (e ∷ es) gave = follow_fits e.request (numbered s.asked e.request) e.how refl gave

  delivers_fit : (s : State) (m : ℕ) → OwnFlows s.asked → Waits s.asked → BlockFits s.block → GaveFits h (delivers s m).state → Fits (delivers s m)
  delivers_fit s m own waits block gave =
      let d : Moving = plainly (step.Deliver m) in
      let o = goes_on_fits (doing s d) own waits block (effect s d).ends gave in
      record { waits = o.waits; block = o.block; stored = (tt, o.stored) }

  -- ---- a client was heard

  heard_fits : (s : State) (q : ℕ) (says : Flow → stream.Step) (o : Option Asked) → numbered s.asked q ≡ o → Waits s.asked → BlockFits s.block →
      ((a : Asked) (flow : Flow) → o ≡ Some a → a.flow ≡ Some flow → FlowFits h flow → HeardFits (says flow) × HeardWithin h flow.block (says flow)) → Fits (heard s q says o)
  heard_fits s q says None at waits block f = still s waits block
  heard_fits s q says (Some a) at waits block f = by_flow a.flow refl
    where
      by_flow : (flow : Option Flow) → a.flow ≡ flow → Fits (heard_in s q says a flow)
      by_flow None flow_is = still s waits block
      by_flow (Some flow) flow_is =
          let w = waits q a flow at flow_is in
          let g = f a flow refl flow_is w in
          hears_fit s q a at waits block flow.block (says flow) w.block g.0 g.1

  -- a request needs what its flow needs
  needs_so : (s : State) (q n : ℕ) (a : Asked) (flow : Flow) → need_at s q ≡ Some n → numbered s.asked q ≡ Some a → a.flow ≡ Some flow → stream.need_of flow ≡ Some n
  needs_so s q n a flow need at flow_is = by_open (is_open_at s.world q) need
    where
      is : needed (numbered s.asked q) ≡ stream.need_of flow
      is = ap needed at ∙ ap (λ (o : Option Flow). option_and_then stream.need_of o) flow_is

      by_open : (b : Bool) → (if b then needed (numbered s.asked q) else None) ≡ Some n → stream.need_of flow ≡ Some n
      by_open true e = sym is ∙ e
      by_open false e = cc

  -- ---- requests that begin

  opened_fits : (s : State) (n : ℕ) (o : Order) → OrderFits o → Waits s.asked → BlockFits s.block → Fits (opened s n o)
  opened_fits s n o f waits block =
      let number = suc (length s.world.requests) in
      let first = started o number s.block in
      let new = new_request n o first.0 in
      let begun = begins_fit o number s.block f in
      let within = begins_within h s.block o number in
      let fits : FlowFits h first.0 = record { block = subst BlockFits (sym within.1) block; stage = begun.0; within = within.0 } in
      record {
        waits = λ p b flow there is. elim (numbered_push_cases s.asked new p b there) [
          | inl was ↦ waits p b flow was is
          | inr e ↦ (let some : Some first.0 ≡ Some flow = ap (λ (x : Asked). x.flow) e.1 ∙ is in let same : first.0 ≡ flow = cc in subst (FlowFits h) same fits)
        ];
        block = block;
        stored = (tt, (step_single number number first.1 begun.1, tt));
      }

  begins_so : (s : State) (n : ℕ) (o : Order) → OrderFits o → Waits s.asked → BlockFits s.block → Fits (begins s n o)
  begins_so s n o f waits block = by_test (is_member_at layouts s.world n) (are_buckets s.buckets (buckets_of o))
    where
      refused : (reason : Refusal Cut) → Fits (refusal s reason)
      refused reason = record { waits = waits; block = block; stored = tt }

      by_test : (x y : Bool) → Fits (if x then (if y then opened s n o else refusal s NoSuchBucket) else refusal s NotMember)
      by_test true true = opened_fits s n o f waits block
      by_test true false = refused NoSuchBucket
      by_test false y = refused NotMember

  -- ---- acts

  module _ (every : EveryWorld Any) where
    own_of : (s : State) → IsSound Any s → OwnFlows s.asked
    own_of s sound q a flow at is = (sound.stages q a flow at is).0

    drains_fit : (n : ℕ) (s : State) → FitIn Any s.world (drains n s).moves → IsSound Any s → Waits s.asked → BlockFits s.block → GaveFits h (drains n s).state → Fits (drains n s)
    drains_fit zero s fits sound waits block gave = still s waits block
    drains_fit (suc n) s fits sound waits block gave =
        elim (undelivered s.world) as (λ o. FitIn Any s.world (elim o as (λ o. Outcome) [ None ↦ silent s | Some m ↦ let o = delivers s m in then_drains o (drains n o.state) ]).moves →
        GaveFits h (elim o as (λ o. Outcome) [ None ↦ silent s | Some m ↦ let o = delivers s m in then_drains o (drains n o.state) ]).state →
        Fits (elim o as (λ o. Outcome) [ None ↦ silent s | Some m ↦ let o = delivers s m in then_drains o (drains n o.state) ])) [
          | None ↦ λ fits gave. still s waits block
          | Some m ↦ λ fits gave.
              let first : Outcome = delivers s m in
              let last : Outcome = drains n first.state in
              let parts = in_parts Any s.world first.moves last.moves fits in
              let one = delivers_fit s m (own_of s sound) waits block (gave_less first.state last.state (drains_grow n first.state) gave) in
              let rest = drains_fit n first.state (subst (λ (w : World). FitIn Any w last.moves) (delivers_lead s m) parts.1) (delivers_keeps every s m parts.0 sound) one.waits one.block gave in
              record { waits = rest.waits; block = rest.block; stored = all_append (λ (m : Moving). AreSingle (stored_by m.step)) first.moves last.moves one.stored rest.stored }
        ] fits gave

    act_fits : (s : State) (a : Act) → IsLawfulAct s a → ActFits a → FitIn Any s.world (acted s a).moves → IsSound Any s → Waits s.asked → BlockFits s.block → GaveFits h (acted s a).state → Fits (acted s a)
    act_fits s (moves m) lawful f fits sound waits block gave = record { waits = waits; block = block; stored = (subst AreSingle (sym (outer_calm every m.step lawful.0).2) tt, tt) }
    act_fits s (installs first) lawful f fits sound waits block gave = record { waits = waits; block = block; stored = tt }
    act_fits s (asks n o) lawful f fits sound waits block gave = begins_so s n o f waits block
    act_fits s (delivery m) lawful f fits sound waits block gave = delivers_fit s m (own_of s sound) waits block gave
    act_fits s (drain n) lawful f fits sound waits block gave = drains_fit n s fits sound waits block gave
    act_fits s forgets lawful f fits sound waits block gave = record { waits = waits; block = block; stored = tt }
    act_fits s (takes_end q) lawful f fits sound waits block gave = record { waits = waits; block = block; stored = tt }
    act_fits s (adds name) lawful f fits sound waits block gave = record { waits = waits; block = block; stored = tt }
    act_fits s (cuts size) lawful f fits sound waits block gave = record { waits = waits; block = f; stored = tt }
    act_fits s (feeds q bytes) lawful f fits sound waits block gave =
        heard_fits s q (λ flow. stream.fed flow bytes) (numbered s.asked q) refl waits block
        (λ a flow at is w. (fed_so flow.id flow.block flow.stage bytes w.block.1 w.stage f (needs_so s q (length bytes) a flow lawful.0 at is), fed_within h flow.block flow.id flow.stage bytes))
    act_fits s (keeps q) lawful f fits sound waits block gave =
        let filled : State = record s { draws = fills_at s q (numbered s.asked q) ++ s.draws } in
        heard_fits filled q stream.finished (numbered s.asked q) refl waits block (λ a flow at is w. (kept_so flow.id flow.block flow.stage w.stage, kept_within h flow.block flow.id flow.stage))
    act_fits s (gives_up q) lawful f fits sound waits block gave =
        heard_fits s q stream.given_up (numbered s.asked q) refl waits block (λ a flow at is w. (given_up_so flow.id flow.block flow.stage w.stage, given_up_within h flow.block flow.id flow.stage))

    pub record ActsFitting (s : State) (as' : List Act) : Type 0 where
      pub waits : Waits (after_acts s as').asked
      pub stored : ActsStoreSingle s as'

    all_fit : (s : State) (as' : List Act) → AreLawfulActs s as' → ActsFit s as' → AllByRecursion ActFits as' → IsSound Any s → Waits s.asked → BlockFits s.block → GaveFits h (after_acts s as') → ActsFitting s as'
    all_fit s [] lawful fit f sound waits block gave = record { waits = waits; stored = tt }
    all_fit s (a ∷ as') lawful fit f sound waits block gave =
        let fits = fit_in Any s.world (acted s a).moves fit.0 (λ d h. tt) in
        let one = act_fits s a lawful.0 f.0 fits sound waits block (gave_less (acted s a).state (after_acts (acted s a).state as') (acts_grow (acted s a).state as') gave) in
        let rest = all_fit (acted s a).state as' lawful.1 fit.1 f.1 (act_keeps every s a lawful.0 fits sound) one.waits one.block gave in
        record { waits = rest.waits; stored = (one.stored, rest.stored) }

    pub acts_fit : (acts : List Act) → AreLawfulActs start acts → ActsFit start acts → AllByRecursion ActFits acts → GaveFits h (after_acts start acts) → ActsFitting start acts
    acts_fit acts lawful fit f gave = all_fit start acts lawful fit f start_sound (λ q a flow at is. absurd (no_entry q a at)) (omega arith, omega arith) gave
