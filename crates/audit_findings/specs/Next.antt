-- What the next event of a run may be given, and how its steps may end.
use Rattle.std.specs.Prelude.{◌≡◌, ◌<◌, ℕ, List, ◌∷◌, ◌++◌}
use Rattle.std.specs.List.{AllByRecursion}
use Rattle.cluster_machine.specs.Choices.{Decision}
use Rattle.store_model.specs.declared.event.Numbered.{Numbered}
use Rattle.store_model.specs.Run.{State}
use Rattle.store_model.specs.Acts.{IsLawfulAct}
use Rattle.store_model.specs.Events.{Turn, act_of}
use Rattle.text_model.specs.Played.{Step, sent_limit, HasSent, GoesOn}
use Rattle.audit_model.specs.Printed.{Print, print_at}
use Rattle.audit_model.specs.Audit.{IsGiven}
use Rattle.audit_runs.specs.Alike.{DifferInCut}

-- the turn of an event that is given this
abbrev pub turned : Numbered → Decision → Turn
turned e c = record { numbered = e; choice = c }

-- what an event is given by these prints, and beside it what is computed, with another cut perhaps
pub record Chosen (ps : List Print) (s : State) (e : Numbered) : Type 0 where
  pub choice : Decision
  pub beside : Decision
  pub given : IsGiven s (turned e choice) (print_at ps e.line)
  pub differ : DifferInCut beside choice
  pub lawful : IsLawfulAct s (act_of e.event beside)

-- one of these steps is the first after which a replay doesn't go on, and it has sent too much
pub record Passes (steps : List Step) : Type 0 where
  pub first : List Step
  pub last : Step
  pub rest : List Step
  pub steps_are : steps ≡ first ++ last ∷ rest
  pub first_go_on : AllByRecursion GoesOn first
  pub bytes : ℕ
  pub sent : HasSent last.outcome.state bytes
  pub beyond : sent_limit < bytes
