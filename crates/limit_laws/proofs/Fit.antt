-- Everything fits after turns whose steps go on: of replays and of the audits of their texts.
use Rattle.std.proofs.Common.{ℕ, zero, suc, Some, None, List, [], ◌∷◌, ◌++◌, sym, subst}
use Rattle.std.specs.List.{AllByRecursion}
use Rattle.crdt_rows.specs.AnyRow.{any_join}
use Rattle.object_schema.specs.Schema.{words}
use Rattle.cluster_machine.specs.Choices.{Decision}
use Rattle.cluster_machine.specs.World.{undelivered}
use Rattle.cluster_machine.specs.Worlds.{next, FitAll, run as world_run}
use Rattle.store_model.specs.declared.event.Event.{Event}
use Rattle.store_model.specs.declared.event.Event.TheVariants.{Drain}
use Rattle.store_model.specs.Run.{World, Moving, State, Outcome, silent, delivers, then_drains, drains}
use Rattle.store_model.specs.Events.{Turn, outcome, after}
use Rattle.store_model.specs.Turns.{AllFit}
use Rattle.store_model.proofs.Leads.{delivers_lead}
use Rattle.text_model.specs.Played.{Step, deliveries, steps_of, GoesOn, AllGoOn}

fit_both : (w : World) (first rest : List Moving) → FitAll any_join words w first → FitAll any_join words (world_run any_join words w first) rest → FitAll any_join words w (first ++ rest)
fit_both w [] rest a b = b
fit_both w (m ∷ first) rest a b = (a.0, fit_both (next any_join words w m) first rest a.1 b)

-- everything fits after a drain whose deliveries go on
drained_fit : (n : ℕ) (s : State) → AllByRecursion GoesOn (deliveries n s) → FitAll any_join words s.world (drains n s).moves
drained_fit zero s = λ h. tt
drained_fit (suc n) s =
    elim (undelivered s.world) as (λ o. AllByRecursion GoesOn (elim o as (λ o. List Step) [ None ↦ [] | Some m ↦ record { from = s; outcome = delivers s m } ∷ deliveries n (delivers s m).state ])
    → FitAll any_join words s.world (elim o as (λ o. Outcome) [ None ↦ silent s | Some m ↦ let o = delivers s m in then_drains o (drains n o.state) ]).moves) [
      | None ↦ λ h. tt
      | Some m ↦ λ h.
          let o : Outcome = delivers s m in
          fit_both s.world o.moves (drains n o.state).moves h.0.fits (subst (λ w. FitAll any_join words w (drains n o.state).moves) (sym (delivers_lead s m)) (drained_fit n o.state h.1))
    ]

pub event_fits : (s : State) (event : Event) (choice : Decision) → AllByRecursion GoesOn (steps_of s event choice) → FitAll any_join words s.world (outcome s event choice).moves
event_fits s (Drain n) choice h = drained_fit n s h
event_fits s event choice h = h.0.fits

pub turns_fit : (s : State) (ts : List Turn) → AllGoOn s ts → AllFit s ts
turns_fit s [] h = tt
turns_fit s (t ∷ ts) h = (event_fits s t.numbered.event t.choice h.0, turns_fit (after s t) ts h.1)
