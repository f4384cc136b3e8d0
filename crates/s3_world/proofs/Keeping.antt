-- What requests do keeps the buckets and the size of blocks.
use Rattle.std.proofs.Common.{◌≡◌, ℕ, zero, suc, Option, Some, None, List, [], ◌∷◌, refl, ◌∙◌}
use Rattle.crdt_rows.specs.declared.any_row.AnyRow.{AnyRow}
use Rattle.wire_messages.specs.declared.phase.PhaseEnd.{PhaseEnd}
use Rattle.cluster_machine.specs.declared.step.Step.TheVariants.{Deliver}
use Rattle.cluster_machine.specs.Node.{Ended}
use Rattle.cluster_machine.specs.World.{numbered, clock, undelivered}
use Rattle.flow_model.specs.declared.flow.Flow.{Flow}
use Rattle.flow_model.specs.declared.flow.FlowStep.{FlowStep}
use Rattle.flow_model.specs.declared.flow.FlowStep.TheVariants.{More, Need, Wait, End}
use Rattle.flow_model.specs.Next as flow
use Rattle.flow_model.specs.Streams as stream
use Rattle.store_model.specs.Run.{Asked, Draw, State, Outcome, silent, plainly, effect, doing, takes, draws_of, follows, follow, goes_on, delivers, then_drains, drains, hears, heard_in, heard}

-- the buckets and the size of blocks are as they were
abbrev pub Keeps : State → State → Type 0
Keeps old new = (new.buckets ≡ old.buckets) × (new.block ≡ old.block)

takes_keeps : (s : State) (q : ℕ) (m : Asked) (draws : List Draw) (does : FlowStep) → Keeps s (takes s q m draws does).state
takes_keeps s q m draws (More f phase) = (refl, refl)
takes_keeps s q m draws (Need f wanted) = (refl, refl)
takes_keeps s q m draws (Wait f) = (refl, refl)
takes_keeps s q m draws (End end) = (refl, refl)

follows_keeps : (s : State) (q : ℕ) (m : Asked) (end : PhaseEnd AnyRow) (f : Option Flow) → Keeps s (follows s q m end f).state
follows_keeps s q m end None = (refl, refl)
follows_keeps s q m end (Some f) =
    let now = clock s.world m.node in takes_keeps (record s { saw = record { request = q; end = end } ∷ s.saw }) q m (draws_of s q f.block f.stage end now) (flow.next f end now)

follow_keeps : (s : State) (q : ℕ) (m : Option Asked) (end : PhaseEnd AnyRow) → Keeps s (follow s q m end).state
follow_keeps s q None end = (refl, refl)
follow_keeps s q (Some m) end = follows_keeps s q m end m.flow

goes_on_keeps : (s : State) (ends : List (Ended AnyRow)) → Keeps s (goes_on s ends).state
goes_on_keeps s [] = (refl, refl)
goes_on_keeps s (e ∷ es) = follow_keeps s e.request (numbered s.asked e.request) e.how

pub delivers_keeps : (s : State) (m : ℕ) → Keeps s (delivers s m).state
delivers_keeps s m = goes_on_keeps (doing s (plainly (Deliver m))) (effect s (plainly (Deliver m))).ends

pub drains_keeps : (n : ℕ) (s : State) → Keeps s (drains n s).state
drains_keeps zero s = (refl, refl)
drains_keeps (suc n) s =
    elim (undelivered s.world) as (λ o. Keeps s (elim o as (λ o. Outcome) [ None ↦ silent s | Some m ↦ let o = delivers s m in then_drains o (drains n o.state) ]).state) [
      | None ↦ (refl, refl)
      | Some m ↦
          let o : Outcome = delivers s m in
          let first : Keeps s o.state = delivers_keeps s m in
          let rest : Keeps o.state (drains n o.state).state = drains_keeps n o.state in
          (rest.0 ∙ first.0, rest.1 ∙ first.1)
    ]

-- and so does what streamed uploads do whose client was heard
hears_keeps : (s : State) (q : ℕ) (m : Asked) (next : stream.Step) → Keeps s (hears s q m next).state
hears_keeps s q m None = (refl, refl)
hears_keeps s q m (Some next) = (refl, refl)

heard_in_keeps : (s : State) (q : ℕ) (says : Flow → stream.Step) (m : Asked) (f : Option Flow) → Keeps s (heard_in s q says m f).state
heard_in_keeps s q says m None = (refl, refl)
heard_in_keeps s q says m (Some f) = hears_keeps s q m (says f)

pub heard_keeps : (s : State) (q : ℕ) (says : Flow → stream.Step) (m : Option Asked) → Keeps s (heard s q says m).state
heard_keeps s q says None = (refl, refl)
heard_keeps s q says (Some m) = heard_in_keeps s q says m m.flow
