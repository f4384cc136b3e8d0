-- What the client of a streamed upload does keeps a state sound.
use Rattle.std.proofs.Common.{◌≡◌, ◌<◌, ◌^◌, inl, inr, ℕ, Option, Some, None, List, [], ◌++◌, length, refl, sym, ap, ◌∙◌, subst}
use Rattle.cluster_machine.specs.World.{numbered}
use Rattle.wire_messages.specs.declared.phase.Phase.TheVariants.{Store}
use Rattle.flow_model.specs.declared.flow.Wish.TheVariants as wish
use Rattle.flow_model.specs.declared.flow.Stage.{Stage}
use Rattle.flow_model.specs.declared.flow.Stage.TheVariants.{Needing}
use Rattle.flow_model.specs.declared.flow.Flow.{Flow}
use Rattle.flow_model.specs.Rows.{rows_at}
use Rattle.flow_model.specs.Streams.{Step, fed, finished, given_up}
use Rattle.store_model.specs.Run.{State, Asked, Draw, effect, phases, heard_in, heard, fills_in, fills_at, feeding, keeping, giving_up}
use Rattle.store_laws.proofs.Every.{EveryWorld}
use Rattle.store_laws.proofs.Sound.{HasPhase, IsStage, IsSound, sights}
use Rattle.store_laws.proofs.Grown.{Rests}
use Rattle.store_laws.proofs.Ends.{rests_or_waits}
use Rattle.store_laws.proofs.Going.{flow_of, fed_keeps, kept_keeps, given_up_keeps}
use Rattle.store_laws.proofs.Acting.{number_fits}
use Rattle.store_laws.proofs.Hashing.{FitIn}
use Rattle.store_laws.proofs.Deeds.{Deed}

module _ {H : Deed → Type 0} where
  module _ (every : EveryWorld H) (s : State) (q : ℕ) (a : Asked) (at : numbered s.asked q ≡ Some a) (sound : IsSound H s) where
    -- a request that needs its client has no phase
    pub needing_rests : (flow : Flow) → a.flow ≡ Some flow → (HasPhase flow.stage → ⊥) → Rests s q
    needing_rests flow flow_is none n c has is = elim (rests_or_waits H s.asked s.draws s.history (sights s) n c.request c.present (sound.presents n c has)) [
      | inl rests ↦ rests
      | inr w ↦
          let some_is : Some w.one ≡ Some a = sym w.is_there ∙ (ap (numbered s.asked) is ∙ at) in
          let one_is : w.one ≡ a = cc in
          let flows : Some w.flow ≡ Some flow = sym w.flow_is ∙ (ap (λ (b : Asked). b.flow) one_is ∙ flow_is) in
          let same : w.flow ≡ flow = cc in
          absurd (none (subst (λ (f : Flow). HasPhase f.stage) same w.has_phase))
    ]

    -- what comes of it that this request's client was heard, with these draws entered before
    abbrev pub InKeeps : (Flow → Step) → (Option Flow → List Draw) → Option Flow → Type 0
    InKeeps says fills flow =
        let o = heard_in (record s { draws = fills flow ++ s.draws }) q says a flow in FitIn H s.world o.moves → IsSound H o.state

    abbrev pub StageKeeps : (Flow → Step) → (Option Flow → List Draw) → ℕ → Stage → Type 0
    StageKeeps says fills block stage = a.flow ≡ Some (flow_of q block stage) → IsStage H s.draws s.history q a stage → InKeeps says fills (Some (flow_of q block stage))

    in_keeps : (says : Flow → Step) (fills : Option Flow → List Draw) → fills None ≡ [] → ((block : ℕ) (stage : Stage) → StageKeeps says fills block stage) → (flow : Option Flow) → a.flow ≡ flow → InKeeps says fills flow
    in_keeps says fills none each None flow_is fits = subst (λ (ds : List Draw). IsSound H (record s { draws = ds ++ s.draws })) (sym none) sound
    in_keeps says fills none each (Some flow) flow_is fits =
        let stage = sound.stages q a flow at flow_is in
        let numbered_so : flow ≡ flow_of q flow.block flow.stage = (λ i. record { id = stage.0 i; block = flow.block; stage = flow.stage }) in
        subst (λ (f : Flow). InKeeps says fills (Some f)) (sym numbered_so) (each flow.block flow.stage (flow_is ∙ ap Some numbered_so) stage.1) fits

    abbrev pub none_filled : Option Flow → List Draw
    none_filled flow = []

    -- a block has come
    stage_fed : (bytes : List ℕ) (block : ℕ) (stage : Stage) → StageKeeps (λ flow. fed flow bytes) none_filled block stage
    stage_fed bytes block (Needing name version coming received) flow_is stage fits =
        let d : Draw = record { request = q; name = name; version = version; wish = wish.Stream coming; block = stage.1.block; moment = stage.1.moment } in
        let id_is : version.id ≡ q = (sound.drawn d stage.1.drawn).id_is in
        fed_keeps every s q a at (needing_rests (flow_of q block (Needing name version coming received)) flow_is (λ no. no)) block name version coming received bytes
        (subst (λ (i : ℕ). i < 2 ^ 64) (sym id_is) (number_fits s q a (effect s (phases q (Store (rows_at version.id (length received) bytes)))) at sound fits.0.0)) stage fits sound
    stage_fed bytes block _ flow_is stage fits = sound

    -- the upload is kept
    stage_kept : (block : ℕ) (stage : Stage) → StageKeeps finished (fills_in s q) block stage
    stage_kept block (Needing name version coming received) flow_is stage fits =
        kept_keeps every s q a at (needing_rests (flow_of q block (Needing name version coming received)) flow_is (λ no. no)) block name version coming received stage fits sound
    stage_kept block _ flow_is stage fits = sound

    -- it is given up
    stage_given_up : (block : ℕ) (stage : Stage) → StageKeeps given_up none_filled block stage
    stage_given_up block (Needing name version coming received) flow_is stage fits =
        given_up_keeps every s q a at (needing_rests (flow_of q block (Needing name version coming received)) flow_is (λ no. no)) block name version coming received stage fits sound
    stage_given_up block _ flow_is stage fits = sound

  module _ (every : EveryWorld H) (s : State) (q : ℕ) (sound : IsSound H s) where
    asked_feeding : (bytes : List ℕ) (asked : Option Asked) → numbered s.asked q ≡ asked → (let o = heard s q (λ flow. fed flow bytes) asked in FitIn H s.world o.moves → IsSound H o.state)
    asked_feeding bytes None at fits = sound
    asked_feeding bytes (Some a) at fits = in_keeps every s q a at sound (λ flow. fed flow bytes) (λ flow. []) refl (stage_fed every s q a at sound bytes) a.flow refl fits

    asked_keeping : (asked : Option Asked) → numbered s.asked q ≡ asked → (let o = heard (record s { draws = fills_at s q asked ++ s.draws }) q finished asked in FitIn H s.world o.moves → IsSound H o.state)
    asked_keeping None at fits = sound
    asked_keeping (Some a) at fits = in_keeps every s q a at sound finished (fills_in s q) refl (stage_kept every s q a at sound) a.flow refl fits

    asked_giving_up : (asked : Option Asked) → numbered s.asked q ≡ asked → (let o = heard s q given_up asked in FitIn H s.world o.moves → IsSound H o.state)
    asked_giving_up None at fits = sound
    asked_giving_up (Some a) at fits = in_keeps every s q a at sound given_up (λ flow. []) refl (stage_given_up every s q a at sound) a.flow refl fits

    pub feeding_keeps : (bytes : List ℕ) → FitIn H s.world (feeding s q bytes).moves → IsSound H (feeding s q bytes).state
    feeding_keeps bytes fits = asked_feeding bytes (numbered s.asked q) refl fits

    pub keeping_keeps : FitIn H s.world (keeping s q).moves → IsSound H (keeping s q).state
    keeping_keeps fits = asked_keeping (numbered s.asked q) refl fits

    pub giving_up_keeps : FitIn H s.world (giving_up s q).moves → IsSound H (giving_up s q).state
    giving_up_keeps fits = asked_giving_up (numbered s.asked q) refl fits
