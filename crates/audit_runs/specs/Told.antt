-- What the lines of a run say of its events, read back.
use Rattle.std.specs.Prelude.{◌≡◌, ⊤, Option, Some, None, List, [], ◌∷◌, ◌++◌}
use Rattle.std.specs.List.{AllByRecursion}
use Rattle.layout_roles.specs.declared.cut.Cut.{Cut}
use Rattle.cluster_machine.specs.declared.step.Refusal.{Refusal}
use Rattle.store_model.specs.declared.event.Event.{Event as ScheduleEvent}
use Rattle.store_model.specs.declared.event.Numbered.{Numbered}
use Rattle.store_model.specs.Run.{State, Outcome}
use Rattle.store_model.specs.Events.{Turn, outcome_of}
use Rattle.text_model.specs.Grammar.{name_of}
use Rattle.audit_model.specs.declared.said.Told.{Told}
use Rattle.audit_model.specs.declared.said.Told.TheVariants.{Accepted, Refused}
use Rattle.audit_model.specs.declared.said.Said.{Said}
use Rattle.audit_model.specs.declared.said.Said.TheVariants.{Event}
use Rattle.audit_model.specs.Printed.{Staged, stages}

-- what is staged after an event, which nothing refused or something did
abbrev pub stages_by : Staged → ScheduleEvent → Option (Refusal Cut) → Staged
stages_by s e None = stages s e
stages_by s e (Some refusal) = s

-- the line isn't an event's own
abbrev pub IsOther : Said → Type 0
IsOther (Event line name told) = ⊥
IsOther other = ⊤

-- it says that the event was accepted where nothing refused it, and else that it was refused
abbrev pub IsAnswerTo : Option (Refusal Cut) → Told → Type 0
IsAnswerTo None (Accepted words) = ⊤
IsAnswerTo (Some refusal) (Refused other) = ⊤
IsAnswerTo refusal told = ⊥

-- the first of these lines is the event's own, and says whether it was accepted; the others aren't those of events
pub record TellsEvent (e : Numbered) (o : Outcome) (saids : List Said) : Type 0 where
  pub told : Told
  pub others : List Said
  pub saids_are : saids ≡ Event e.line (name_of e.event) told ∷ others
  pub answers : IsAnswerTo o.refused told
  pub are_other : AllByRecursion IsOther others

-- turn by turn, from a state on; what follows the last of them are no lines of events
abbrev pub TellTurns : State → List Turn → List Said → Type 0
TellTurns s [] saids = AllByRecursion IsOther saids
TellTurns s (t ∷ ts) saids =
    let o = outcome_of s t in (first : List Said) × ((rest : List Said) × ((saids ≡ first ++ rest) × (TellsEvent t.numbered o first × TellTurns o.state ts rest)))
