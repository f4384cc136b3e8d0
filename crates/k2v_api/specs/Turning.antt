-- What one event of a replay does in the code.
use Rattle.std.specs.Prelude.{◌≡◌, ℕ, ⊤, Option, Some, None, List}
use Rattle.std.specs.List.{AllByRecursion}
use Rattle.cluster_machine.specs.Choices.{Decision}
use Rattle.cluster_machine.specs.Ties as ties
use Rattle.store_model.specs.declared.event.Event.TheVariants.{Drain}
use Rattle.k2v_model.specs.declared.line.ItemLine.{ItemLine}
use Rattle.k2v_model.specs.Acts.{IsLawfulAct}
use Rattle.k2v_model.specs.Run.{State, drains}
use Rattle.k2v_text.specs.declared.event.ItemEvent.{ItemEvent}
use Rattle.k2v_text.specs.declared.event.ItemEvent.TheVariants.{Common}
use Rattle.k2v_text.specs.declared.event.ItemTold.{ItemTold}
use Rattle.k2v_text.specs.declared.event.NumberedItemEvent.{NumberedItemEvent}
use Rattle.k2v_text.specs.Events.{Turn, act_of, outcome_of}
use Rattle.k2v_text.specs.Played.{Step, deliveries, outcome, steps_of, GoesOn, IsLawful}
use Rattle.k2v_text.specs.Transcript.{event_text}
use Rattle.k2v_world.specs.declared.world.ItemWorld.{ItemWorld}
use Rattle.k2v_world.specs.Stands.{IsItems, Tells}
use Rattle.k2v_api.specs.declared.stop.Stop.{Stop}
use Rattle.k2v_api.specs.declared.stop.Stop.TheVariants.{Write, Memory, TooManyEvents, BadLine, Number, Sent}
use Rattle.k2v_replay.specs.Replay.{SendsTooMuch, LacksRoom, StopsAt}

-- how many deliveries a drain may have; none for another event
abbrev pub drain_count : ItemEvent → Option ℕ
drain_count (Common (Drain n)) = Some n
drain_count event = None

-- an event with what an apply in it is given
abbrev pub turn : NumberedItemEvent → Decision → Turn
turn e choice = record { numbered = e; choice = choice }

-- an event as one step
abbrev pub step_of : State → ItemEvent → Decision → Step
step_of s event choice = record { from = s; outcome = outcome s event choice }

-- the event was given something lawful, the world of items stands for the state after it and tells what it tells, and the replay goes on
pub record TakesStep (new : ItemWorld) (told : ItemTold) (s : State) (event : ItemEvent) : Type 0 where
  pub choice : Decision
  pub lawful : IsLawfulAct s (act_of event choice)
  pub stands : IsItems new (outcome s event choice).state
  pub tells : Tells told (outcome s event choice)
  pub goes_on : GoesOn (step_of s event choice)

-- the event was given something lawful, and is as one step so
pub record StepIs (IsSo : Step → Type 0) (s : State) (event : ItemEvent) : Type 0 where
  pub choice : Decision
  pub lawful : IsLawfulAct s (act_of event choice)
  pub is_so : IsSo (step_of s event choice)

-- the same after each step of an event
pub record Takes (new : ItemWorld) (told : ItemTold) (s : State) (event : ItemEvent) : Type 0 where
  pub choice : Decision
  pub lawful : IsLawfulAct s (act_of event choice)
  pub stands : IsItems new (outcome s event choice).state
  pub tells : Tells told (outcome s event choice)
  pub go_on : AllByRecursion GoesOn (steps_of s event choice)

-- the event was given something lawful, and the first of its steps after which a replay doesn't go on is so
pub record StopsIn (IsSo : Step → Type 0) (s : State) (event : ItemEvent) : Type 0 where
  pub choice : Decision
  pub lawful : IsLawfulAct s (act_of event choice)
  pub stops : StopsAt IsSo (steps_of s event choice)

-- why a step gave up, whatever state the world of items stood for: for want of memory, or because of that step
abbrev pub StepStops : ItemWorld → ItemEvent → Stop → Type 0
StepStops old event Write = ⊥
StepStops old event Memory = ⊤
StepStops old event TooManyEvents = ⊥
StepStops old event (BadLine k) = ⊥
StepStops old event Number = ties.Steps IsItems old (λ s. StepIs LacksRoom s event)
StepStops old event Sent = ties.Steps IsItems old (λ s. StepIs SendsTooMuch s event)

-- up to n deliveries were done, told these lines, and after each of them the replay goes on
pub record Delivers (new : ItemWorld) (lines : List ItemLine) (n : ℕ) (s : State) : Type 0 where
  pub stands : IsItems new (drains n s).state
  pub lines_are : lines ≡ (drains n s).lines
  pub go_on : AllByRecursion GoesOn (deliveries n s)

-- why one of up to n deliveries gave up
abbrev pub DrainStops : ItemWorld → ℕ → Stop → Type 0
DrainStops old n Write = ⊥
DrainStops old n Memory = ⊤
DrainStops old n TooManyEvents = ⊥
DrainStops old n (BadLine k) = ⊥
DrainStops old n Number = ties.Steps IsItems old (λ s. StopsAt LacksRoom (deliveries n s))
DrainStops old n Sent = ties.Steps IsItems old (λ s. StopsAt SendsTooMuch (deliveries n s))

-- why an event gave up
abbrev pub EventStops : ItemWorld → ItemEvent → Stop → Type 0
EventStops old event Write = ⊥
EventStops old event Memory = ⊤
EventStops old event TooManyEvents = ⊥
EventStops old event (BadLine k) = ⊥
EventStops old event Number = ties.Steps IsItems old (λ s. StopsIn LacksRoom s event)
EventStops old event Sent = ties.Steps IsItems old (λ s. StopsIn SendsTooMuch s event)

-- the event was given something lawful, the world of items stands for the state after it, the replay goes on, and this is what is written of what it tells
pub record TurnsTo (new : ItemWorld) (s : State) (e : NumberedItemEvent) (text : List ℕ) : Type 0 where
  pub choice : Decision
  pub lawful : IsLawful s (turn e choice)
  pub stands : IsItems new (outcome_of s (turn e choice)).state
  pub go_on : AllByRecursion GoesOn (steps_of s e.event choice)
  pub text_is : text ≡ event_text e (outcome_of s (turn e choice))

-- whatever state it stood for, it did this event and wrote this
abbrev pub TurnsOne : ItemWorld → ItemWorld → NumberedItemEvent → List ℕ → Type 0
TurnsOne old new e text = ties.Steps IsItems old (λ s. TurnsTo new s e text)
