-- What a call does, and what has no room, for any relation that ties a value of the code and a state of the model.
use Rattle.std.specs.Prelude.{◌≡◌, Bool, true, false, ⊤}
use Rattle.crdt_rows.specs.declared.any_row.AnyRow.{AnyRow}
use Rattle.crdt_rows.specs.AnyRow.{any_join}
use Rattle.object_schema.specs.Schema.{words}
use Rattle.cluster_machine.specs.Ties as ties
use Rattle.cluster_machine.specs.declared.step.Step.{Step}
use Rattle.cluster_machine.specs.Choices.{Decision}
use Rattle.cluster_machine.specs.Worlds.{IsLawfulStep, FitAll}
use Rattle.store_model.specs.declared.event.Event.{Event}
use Rattle.store_model.specs.declared.event.Told.{Told}
use Rattle.store_model.specs.Run.{State, Outcome}
use Rattle.store_model.specs.Acts.{plain, IsLawfulAct}
use Rattle.store_model.specs.Events.{act_of, outcome}
use Rattle.store_model.specs.Turns.{FitsOutcome}

-- the code tells what the model tells
pub record Tells (told : Told) (o : Outcome) : Type 0 where
  pub refused : told.refused ≡ o.refused
  pub words : told.words ≡ o.words
  pub lines : told.lines ≡ o.lines

-- the same, where anybody hears it
abbrev pub TellsHeard : Bool → Told → Outcome → Type 0
TellsHeard true told o = Tells told o
TellsHeard false told o = ⊤

-- with something lawful given there is no room after the step
pub record LacksRoom (s : State) (st : Step AnyRow) : Type 0 where
  pub choice : Decision
  pub lawful : IsLawfulStep s.world st choice
  pub lacks : FitsOutcome s (plain s (record { step = st; choice = choice })) → ⊥

module _ {V : Type 0} (IsTied : V → State → Type 0) where
  -- the value stands for the state after this outcome, and tells it where anybody hears it; after each of its steps every number fits
  pub record DoesHeard (heard : Bool) (new : V) (told : Told) (s : State) (o : Outcome) : Type 0 where
    pub stands : IsTied new o.state
    pub tells : TellsHeard heard told o
    pub fits : FitAll any_join words s.world o.moves

  -- the same, and it tells it
  abbrev pub Does : V → Told → State → Outcome → Type 0
  Does = DoesHeard true

  -- from old to new the code did what this outcome says, whatever state old stood for, and tells it where anybody hears it
  abbrev pub PlaysHeard : Bool → V → V → Told → (State → Outcome) → Type 0
  PlaysHeard heard old new told f = ties.Steps IsTied old (λ s. DoesHeard heard new told s (f s))

  -- from old to new the code did what this outcome says, whatever state old stood for, and tells it
  abbrev pub Plays : V → V → Told → (State → Outcome) → Type 0
  Plays old new told f = ties.Steps IsTied old (λ s. Does new told s (f s))

  -- the same of an outcome without steps of the world
  abbrev pub Becomes : V → V → (State → Outcome) → Type 0
  Becomes old new f = ties.Steps IsTied old (λ s. IsTied new (f s).state)

  -- the same as Plays, of the states with a property
  abbrev pub PlaysIf : (State → Type 0) → V → V → Told → (State → Outcome) → Type 0
  PlaysIf Has old new told f = (s : State) → IsTied old s → Has s → Does new told s (f s)

  -- some number or row after this outcome would not fit
  abbrev pub Overflows : V → (State → Outcome) → Type 0
  Overflows old f = ties.Overflows IsTied old (λ s. FitsOutcome s (f s))

  -- the same, of the states with a property
  abbrev pub OverflowsIf : (State → Type 0) → V → (State → Outcome) → Type 0
  OverflowsIf Has old f = (s : State) → IsTied old s → Has s → FitsOutcome s (f s) → ⊥

  -- the code did this step of the world, which was given something lawful
  pub record DoesStep (new : V) (told : Told) (s : State) (st : Step AnyRow) : Type 0 where
    pub choice : Decision
    pub lawful : IsLawfulStep s.world st choice
    pub does : Does new told s (plain s (record { step = st; choice = choice }))

  -- whatever state it stood for, it did this step
  abbrev pub PlaysStep : V → V → Told → Step AnyRow → Type 0
  PlaysStep old new told st = ties.Steps IsTied old (λ s. DoesStep new told s st)

  -- whatever state it stood for, this step would not fit
  abbrev pub OverflowsStep : V → Step AnyRow → Type 0
  OverflowsStep old st = ties.Steps IsTied old (λ s. LacksRoom s st)

  -- from old to new the code did what this outcome says, whatever state old stood for, and tells nothing
  abbrev pub Carries : V → V → (State → Outcome) → Type 0
  Carries old new f = ties.Steps IsTied old (λ s. IsTied new (f s).state × FitAll any_join words s.world (f s).moves)

  -- the code did this event, which was given something lawful
  pub record DoesEvent (new : V) (told : Told) (s : State) (event : Event) : Type 0 where
    pub choice : Decision
    pub lawful : IsLawfulAct s (act_of event choice)
    pub does : Does new told s (outcome s event choice)

  -- whatever state it stood for, it did this event
  abbrev pub PlaysEvent : V → V → Told → Event → Type 0
  PlaysEvent old new told event = ties.Steps IsTied old (λ s. DoesEvent new told s event)
