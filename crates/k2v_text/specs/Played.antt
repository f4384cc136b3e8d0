-- The steps of a replay over items: each event is one, but a drain, whose steps are its deliveries; and turns that are played.
use Rattle.std.specs.Prelude.{◌≡◌, ◌≤◌, ℕ, zero, suc, ⊤, Some, None, List, [], ◌∷◌, map}
use Rattle.std.specs.List.{AllByRecursion}
use Rattle.cluster_machine.specs.World.{sent_bytes, undelivered}
use Rattle.cluster_machine.specs.Worlds.{FitAll}
use Rattle.cluster_machine.specs.Choices.{Decision}
use Rattle.store_model.specs.declared.event.Event.TheVariants.{Drain}
use Rattle.text_model.specs.Played.{sent_limit}
use Rattle.k2v_rows.specs.Row.{row_join}
use Rattle.k2v_schema.specs.Schema.{words}
use Rattle.k2v_model.specs.Run.{State, Outcome, start, delivers}
use Rattle.k2v_model.specs.Acts.{Act, acted, IsLawfulAct, AreLawfulActs}
use Rattle.k2v_text.specs.declared.event.ItemEvent.{ItemEvent}
use Rattle.k2v_text.specs.declared.event.ItemEvent.TheVariants.{Common}
use Rattle.k2v_text.specs.declared.event.NumberedItemEvent.{NumberedItemEvent}
use Rattle.k2v_text.specs.Events.{Turn, act_of, act_of_turn, after}

-- the acts of turns
abbrev pub acts_of : List Turn → List Act
acts_of ts = map act_of_turn ts

-- the events of turns
abbrev pub events_of : List Turn → List NumberedItemEvent
events_of ts = map (λ t. t.numbered) ts

-- what comes of an event that is given this
abbrev pub outcome : State → ItemEvent → Decision → Outcome
outcome s event choice = acted s (act_of event choice)

-- a step of a run: from this state, this comes of it
pub record Step : Type 0 where
  pub from : State
  pub outcome : Outcome

-- up to n deliveries, each of the least message that was neither delivered nor lost
abbrev pub deliveries : ℕ → State → List Step
deliveries zero s = []
deliveries (suc n) s = elim (undelivered s.world) as (λ o. List Step) [
  | None ↦ []
  | Some m ↦ record { from = s; outcome = delivers s m } ∷ deliveries n (delivers s m).state
]

-- the steps of an event: the deliveries of a drain, and of another event the event itself
abbrev pub steps_of : State → ItemEvent → Decision → List Step
steps_of s (Common (Drain n)) choice = deliveries n s
steps_of s event choice = record { from = s; outcome = outcome s event choice } ∷ []

-- the messages that were ever sent count so many bytes
abbrev pub HasSent : State → ℕ → Type 0
HasSent s bytes = sent_bytes words s.world.messages ≡ Some bytes

-- after the step every number and row fits, and no more was sent than may be
pub record GoesOn (step : Step) : Type 0 where
  pub fits : FitAll row_join words step.from.world step.outcome.moves
  pub bytes : ℕ
  pub sent : HasSent step.outcome.state bytes
  pub within : bytes ≤ sent_limit

-- the event may happen, and an apply in it is given what is computed from the staged roles
abbrev pub IsLawful : State → Turn → Type 0
IsLawful s t = IsLawfulAct s (act_of_turn t)

-- each of these events is lawful when it happens
abbrev pub AreLawful : State → List Turn → Type 0
AreLawful s ts = AreLawfulActs s (acts_of ts)

-- after each step of these turns a replay goes on
abbrev pub AllGoOn : State → List Turn → Type 0
AllGoOn s [] = ⊤
AllGoOn s (t ∷ ts) = AllByRecursion GoesOn (steps_of s t.numbered.event t.choice) × AllGoOn (after s t) ts

-- each apply was given what is computed from the staged roles, and after each step everything fits and no more was sent than may be
pub record ArePlayed (turns : List Turn) : Type 0 where
  pub lawful : AreLawful start turns
  pub go_on : AllGoOn start turns
