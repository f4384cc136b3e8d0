-- The acts of turns that were played are lawful and fit, and so are those that lead to a moment of their run; what is owed at each.
use Rattle.std.proofs.Common.{◌≤◌, ℕ, zero, suc, Some, None, List, [], ◌∷◌, ◌++◌, sym, subst, arith}
use Rattle.std.specs.List.{AllByRecursion}
use Rattle.cluster_machine.specs.Choices.{Decision}
use Rattle.cluster_machine.specs.World.{undelivered}
use Rattle.cluster_machine.specs.Worlds.{next, FitAll, run}
use Rattle.store_model.specs.declared.event.Event.TheVariants.{Drain}
use Rattle.k2v_rows.specs.Row.{row_join}
use Rattle.k2v_schema.specs.Schema.{words}
use Rattle.k2v_model.specs.Run.{World, Moving, State, Outcome, start, silent, delivers, then_drains, drains}
use Rattle.k2v_model.specs.Acts.{Act, drain, acted, after_acts, AreLawfulActs, ActsFit, AfterEveryRun}
use Rattle.k2v_model.specs.Owed.{AreWhole, ReadsCover, ReadsShowWrites, ReadsLeaveReplaced, WritesHavePlace}
use Rattle.k2v_laws.specs.Hashed.{AfterEveryClearRun}
use Rattle.k2v_text.specs.declared.event.ItemEvent.{ItemEvent}
use Rattle.k2v_text.specs.declared.event.ItemEvent.TheVariants.{Common}
use Rattle.k2v_text.specs.Events.{Turn, after}
use Rattle.k2v_text.specs.Played.{Step, acts_of, outcome, deliveries, steps_of, GoesOn, AllGoOn, ArePlayed}
use Rattle.k2v_model.proofs.Leads.{fit_more, delivers_lead}
use Rattle.k2v_replay.specs.Moments.{IsMoment, between, within, KeepsItems}

-- ---- turns that were played fit

delivered_fit : (n : ℕ) (s : State) → AllByRecursion GoesOn (deliveries n s) → FitAll row_join words s.world (drains n s).moves
delivered_fit zero s h = tt
delivered_fit (suc n) s h =
    elim (undelivered s.world) as (λ o.
    AllByRecursion GoesOn (elim o as (λ o. List Step) [ None ↦ [] | Some m ↦ record { from = s; outcome = delivers s m } ∷ deliveries n (delivers s m).state ]) →
    FitAll row_join words s.world (elim o as (λ o. Outcome) [ None ↦ silent s | Some m ↦ let o = delivers s m in then_drains o (drains n o.state) ]).moves) [
      | None ↦ λ h. tt
      | Some m ↦ λ h.
          let first : Outcome = delivers s m in
          fit_more s.world first.moves (drains n first.state).moves h.0.fits
          (subst (λ (w : World). FitAll row_join words w (drains n first.state).moves) (sym (delivers_lead s m)) (delivered_fit n first.state h.1))
    ] h

steps_fit : (s : State) (event : ItemEvent) (choice : Decision) → AllByRecursion GoesOn (steps_of s event choice) → FitAll row_join words s.world (outcome s event choice).moves
steps_fit s (Common (Drain n)) choice h = delivered_fit n s h
steps_fit s event choice h = h.0.fits

played_fits : (s : State) (ts : List Turn) → AllGoOn s ts → ActsFit s (acts_of ts)
played_fits s [] h = tt
played_fits s (t ∷ ts) h = (steps_fit s t.numbered.event t.choice h.0, played_fits (after s t) ts h.1)

-- ---- the acts that lead to a moment

lawful_first : (s : State) (before after : List Act) → AreLawfulActs s (before ++ after) → AreLawfulActs s before
lawful_first s [] after h = tt
lawful_first s (a ∷ before) after h = (h.0, lawful_first (acted s a).state before after h.1)

fit_first : (s : State) (before after : List Act) → ActsFit s (before ++ after) → ActsFit s before
fit_first s [] after h = tt
fit_first s (a ∷ before) after h = (h.0, fit_first (acted s a).state before after h.1)

lawful_last : (s : State) (before after : List Act) (a : Act) → AreLawfulActs s (before ++ after) → AreLawfulActs (after_acts s before) (a ∷ []) → AreLawfulActs s (before ++ a ∷ [])
lawful_last s [] after a h last = last
lawful_last s (b ∷ before) after a h last = (h.0, lawful_last (acted s b).state before after a h.1 last)

fit_last : (s : State) (before : List Act) (a : Act) (after : List Act) (last : Act) → ActsFit s (before ++ a ∷ after) →
    (FitAll row_join words (after_acts s before).world (acted (after_acts s before) a).moves → ActsFit (after_acts s before) (last ∷ [])) → ActsFit s (before ++ last ∷ [])
fit_last s [] a after last h f = f h.0
fit_last s (b ∷ before) a after last h f = (h.0, fit_last (acted s b).state before a after last h.1 f)

-- what fits in two parts fits in each
first_fits : (w : World) (first rest : List Moving) → FitAll row_join words w (first ++ rest) → FitAll row_join words w first
first_fits w [] rest h = tt
first_fits w (m ∷ first) rest h = (h.0, first_fits (next row_join words w m) first rest h.1)

rest_fits : (w : World) (first rest : List Moving) → FitAll row_join words w (first ++ rest) → FitAll row_join words (run row_join words w first) rest
rest_fits w [] rest h = h
rest_fits w (m ∷ first) rest h = rest_fits (next row_join words w m) first rest h.1

-- some of a drain's deliveries fit where all do
fewer_fit : (k n : ℕ) (s : State) → k ≤ n → FitAll row_join words s.world (drains n s).moves → FitAll row_join words s.world (drains k s).moves
fewer_fit zero n s low fits = tt
fewer_fit (suc k) zero s low fits = absurd (omega (arith, low))
fewer_fit (suc k) (suc n) s low fits =
    elim (undelivered s.world) as (λ o.
    FitAll row_join words s.world (elim o as (λ o. Outcome) [ None ↦ silent s | Some m ↦ let o = delivers s m in then_drains o (drains n o.state) ]).moves →
    FitAll row_join words s.world (elim o as (λ o. Outcome) [ None ↦ silent s | Some m ↦ let o = delivers s m in then_drains o (drains k o.state) ]).moves) [
      | None ↦ λ fits. fits
      | Some m ↦ λ fits.
          let first : Outcome = delivers s m in
          let rest = (drains n first.state).moves in
          let leads = delivers_lead s m in
          fit_more s.world first.moves (drains k first.state).moves (first_fits s.world first.moves rest fits)
          (subst (λ (w : World). FitAll row_join words w (drains k first.state).moves) (sym leads) (fewer_fit k n first.state (omega (arith, low)) (subst (λ (w : World). FitAll row_join words w (drains n first.state).moves) leads (rest_fits s.world first.moves rest fits))))
    ] fits

moment_runs : (s : State) (acts moment : List Act) → AreLawfulActs s acts → ActsFit s acts → IsMoment acts moment → AreLawfulActs s moment × ActsFit s moment
moment_runs s acts moment lawful fit (between before after is) = (lawful_first s before after (subst (AreLawfulActs s) is lawful), fit_first s before after (subst (ActsFit s) is fit))
moment_runs s acts moment lawful fit (within before after n k is low) =
    let then : State = after_acts s before in (
      lawful_last s before (drain n ∷ after) (drain k) (subst (AreLawfulActs s) is lawful) (tt, tt),
      fit_last s before (drain n) after (drain k) (subst (ActsFit s) is fit) (λ fits. (fewer_fit k n then low fits, tt)),
    )

-- what is owed after every run is owed at each moment of one
module _ (whole : AfterEveryClearRun AreWhole) (cover : AfterEveryClearRun ReadsCover) (written : AfterEveryRun ReadsShowWrites) (replaced : AfterEveryClearRun ReadsLeaveReplaced) (place : AfterEveryRun WritesHavePlace) where
  pub moments_keep : (turns : List Turn) → ArePlayed turns → (moment : List Act) → IsMoment (acts_of turns) moment → KeepsItems moment
  moments_keep turns played moment is =
      let runs = moment_runs start (acts_of turns) moment played.lawful (played_fits start turns played.go_on) is in
      record {
        written = written moment runs.0 runs.1;
        place = place moment runs.0 runs.1;
        whole = λ clear. whole moment runs.0 runs.1 clear;
        cover = λ clear. cover moment runs.0 runs.1 clear;
        replaced = λ clear. replaced moment runs.0 runs.1 clear;
      }
