-- The steps of an outcome lead to its world.
use Rattle.std.proofs.Common.{◌≡◌, ℕ, zero, suc, Option, Some, None, List, [], ◌∷◌, ◌++◌, refl, ap, ◌∙◌}
use Rattle.crdt_rows.specs.declared.any_row.AnyRow.{AnyRow}
use Rattle.crdt_rows.specs.AnyRow.{any_join}
use Rattle.object_schema.specs.Schema.{words}
use Rattle.wire_messages.specs.declared.phase.PhaseEnd.{PhaseEnd}
use Rattle.cluster_machine.specs.declared.step.Step.TheVariants.{Deliver}
use Rattle.cluster_machine.specs.Node.{Ended}
use Rattle.cluster_machine.specs.World.{numbered, clock, undelivered}
use Rattle.cluster_machine.specs.Worlds.{next, run}
use Rattle.flow_model.specs.declared.flow.Flow.{Flow}
use Rattle.flow_model.specs.declared.flow.FlowStep.{FlowStep}
use Rattle.flow_model.specs.declared.flow.FlowStep.TheVariants.{More, Need, Wait, End}
use Rattle.flow_model.specs.Next as flow
use Rattle.store_model.specs.Run.{World, Moving, Asked, Draw, State, Outcome, silent, plainly, effect, doing, takes, draws_of, follows, follow, goes_on, delivers, then_drains, drains}

abbrev pub Leads : State → Outcome → Type 0
Leads s o = run any_join words s.world o.moves ≡ o.state.world

module _ (s : State) (q : ℕ) where
  takes_leads : (m : Asked) (draws : List Draw) (does : FlowStep) → Leads s (takes s q m draws does)
  takes_leads m draws (More f phase) = refl
  takes_leads m draws (Need f wanted) = refl
  takes_leads m draws (Wait f) = refl
  takes_leads m draws (End end) = refl

follows_leads : (s : State) (q : ℕ) (m : Asked) (end : PhaseEnd AnyRow) (f : Option Flow) → Leads s (follows s q m end f)
follows_leads s q m end None = refl
follows_leads s q m end (Some f) =
    let now = clock s.world m.node in takes_leads (record s { saw = record { request = q; end = end } ∷ s.saw }) q m (draws_of s q f.block f.stage end now) (flow.next f end now)

follow_leads : (s : State) (q : ℕ) (m : Option Asked) (end : PhaseEnd AnyRow) → Leads s (follow s q m end)
follow_leads s q None end = refl
follow_leads s q (Some m) end = follows_leads s q m end m.flow

pub goes_on_leads : (s : State) (ends : List (Ended AnyRow)) → Leads s (goes_on s ends)
goes_on_leads s [] = refl
goes_on_leads s (e ∷ es) = follow_leads s e.request (numbered s.asked e.request) e.how

pub delivers_lead : (s : State) (m : ℕ) → Leads s (delivers s m)
delivers_lead s m = goes_on_leads (doing s (plainly (Deliver m))) (effect s (plainly (Deliver m))).ends

-- steps one after the other
pub run_more : (w : World) (first rest : List Moving) → run any_join words w (first ++ rest) ≡ run any_join words (run any_join words w first) rest
run_more w [] rest = refl
run_more w (m ∷ first) rest = run_more (next any_join words w m) first rest

pub drains_lead : (n : ℕ) (s : State) → Leads s (drains n s)
drains_lead zero s = refl
drains_lead (suc n) s =
    elim (undelivered s.world) as (λ o. Leads s (elim o as (λ o. Outcome) [ None ↦ silent s | Some m ↦ let o = delivers s m in then_drains o (drains n o.state) ])) [
      | None ↦ refl
      | Some m ↦
          let o : Outcome = delivers s m in
          run_more s.world o.moves (drains n o.state).moves ∙ ap (λ w. run any_join words w (drains n o.state).moves) (delivers_lead s m) ∙ drains_lead n o.state
    ]
