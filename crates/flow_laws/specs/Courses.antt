-- A request from its beginning on, its phases ending one after the other.
use Rattle.std.specs.Prelude.{◌≡◌, ℕ, List, [], ◌∷◌}
use Rattle.crdt_rows.specs.declared.any_row.AnyRow.{AnyRow}
use Rattle.wire_messages.specs.declared.phase.Phase.{Phase}
use Rattle.wire_messages.specs.declared.phase.PhaseEnd.{PhaseEnd}
use Rattle.flow_model.specs.declared.order.Order.{Order}
use Rattle.flow_model.specs.declared.flow.FlowStep.{FlowStep}
use Rattle.flow_model.specs.declared.flow.FlowStep.TheVariants.{More}
use Rattle.flow_model.specs.Flow.{started}
use Rattle.flow_model.specs.Next.{next}

-- how a phase ended, and the time of the coordinator's clock then
abbrev pub Ended : Type 0
Ended = PhaseEnd AnyRow × ℕ

-- the beginning of a request, as a step
abbrev pub begun : Order → ℕ → ℕ → FlowStep
begun order id block = let b = started order id block in More b.0 b.1

-- the phases that a request asks for from this step on, while its phases end so
abbrev pub phases : FlowStep → List Ended → List (Phase AnyRow)
phases (More flow phase) [] = phase ∷ []
phases (More flow phase) (e ∷ es) = phase ∷ phases (next flow e.0 e.1) es
phases step es = []

-- what a request has come to from this step on, when its phases have ended so
abbrev pub comes_to : FlowStep → List Ended → FlowStep
comes_to (More flow phase) [] = More flow phase
comes_to (More flow phase) (e ∷ es) = comes_to (next flow e.0 e.1) es
comes_to step es = step

-- from this step on a request asks for just these phases while its phases end so, and comes to this
pub record Runs (from : FlowStep) (ends : List Ended) (asked : List (Phase AnyRow)) (last : FlowStep) : Type 0 where
  pub asks : phases from ends ≡ asked
  pub comes : comes_to from ends ≡ last
