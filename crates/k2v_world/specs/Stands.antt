-- When the code's world of items stands for a state of the model, and what its calls do.
use Rattle.std.specs.Prelude.{◌≡◌, ◌+◌, ℕ, ⊤, true, Option, option_map, Some, None, List, [], ◌∷◌, map, slice_get}
use Rattle.wire_messages.specs.declared.phase.Phase.TheVariants.{Store}
use Rattle.wire_messages.specs.declared.phase.PhaseEnd.{PhaseEnd}
use Rattle.cluster_machine.specs.Ties as ties
use Rattle.cluster_machine.specs.declared.step.Step.{Step}
use Rattle.cluster_machine.specs.declared.step.Step.TheVariants as step
use Rattle.cluster_machine.specs.declared.step.Words.TheVariants.{Empty}
use Rattle.cluster_machine.specs.Choices.{Decision}
use Rattle.cluster_machine.specs.World.{numbered, is_member_at}
use Rattle.cluster_machine.specs.Layouts.{layouts}
use Rattle.cluster_machine.specs.Worlds.{IsMeant, IsLawfulStep, FitAll, HaveRoom}
use Rattle.store_model.specs.declared.event.Event.TheVariants.{Role, Redundancy}
use Rattle.k2v_rows.specs.declared.value.K2vValue.{K2vValue}
use Rattle.k2v_rows.specs.declared.k2v_row.K2vRow.{K2vRow}
use Rattle.k2v_rows.specs.Row.{row_join}
use Rattle.k2v_schema.specs.Schema.{words}
use Rattle.k2v_model.specs.declared.line.ItemLine.{ItemLine}
use Rattle.k2v_model.specs.declared.line.ItemLine.TheVariants.{ReadDone}
use Rattle.k2v_model.specs.declared.line.ItemRefusal.TheVariants.{Cluster}
use Rattle.k2v_model.specs.Run.{State, Outcome, cluster_lines, values_told, follow}
use Rattle.k2v_model.specs.Acts.{acted, plain, IsOuter, IsLawfulAct}
use Rattle.k2v_text.specs.declared.event.ItemEvent.{ItemEvent}
use Rattle.k2v_text.specs.declared.event.ItemEvent.TheVariants.{Common}
use Rattle.k2v_text.specs.declared.event.ItemTold.{ItemTold}
use Rattle.k2v_text.specs.Events.{act_of}
use Rattle.world_core.specs.declared.report.Report.{Report}
use Rattle.world_core.specs.Stands.{StandsFor, Steps}
use Rattle.k2v_world.specs.declared.asked.Asked.{Asked}
use Rattle.k2v_world.specs.declared.asked.Stage.{Stage}
use Rattle.k2v_world.specs.declared.asked.Stage.TheVariants.{Storing, Shown}
use Rattle.k2v_world.specs.declared.world.ItemWorld.{ItemWorld}
use Rattle.k2v_world.specs.Kept.{kept, read_token, with_stage, written}

-- the code tells what the model tells
pub record Tells (told : ItemTold) (o : Outcome) : Type 0 where
  pub refused : told.refused ≡ o.refused
  pub words : told.words ≡ o.words
  pub lines : told.lines ≡ o.lines

-- the code's world of items is this state of the model
pub record IsItems (c : ItemWorld) (s : State) : Type 0 where
  pub world : StandsFor row_join words c.world s.world
  pub buckets : c.buckets ≡ s.buckets
  pub requests : c.requests ≡ map kept s.requests

-- it stands for some state: it was not given up
abbrev pub HasItems : ItemWorld → Type 0
HasItems c = (s : State) × IsItems c s

-- it stands for the state after this outcome, and tells it; after each of its steps every number fits
pub record Does (new : ItemWorld) (told : ItemTold) (s : State) (o : Outcome) : Type 0 where
  pub stands : IsItems new o.state
  pub tells : Tells told o
  pub fits : FitAll row_join words s.world o.moves

-- from old to new the code did what this outcome says, whatever state old stood for, and tells it
abbrev pub Plays : ItemWorld → ItemWorld → ItemTold → (State → Outcome) → Type 0
Plays old new told f = ties.Steps IsItems old (λ s. Does new told s (f s))

-- the same of the states with a property
abbrev pub PlaysIf : (State → Type 0) → ItemWorld → ItemWorld → ItemTold → (State → Outcome) → Type 0
PlaysIf Has old new told f = (s : State) → IsItems old s → Has s → Does new told s (f s)

-- some number or row after this outcome would not fit
abbrev pub Overflows : ItemWorld → (State → Outcome) → Type 0
Overflows old f = ties.Overflows IsItems old (λ s. HaveRoom row_join words s.world (f s).moves)

-- the same of the states with a property
abbrev pub OverflowsIf : (State → Type 0) → ItemWorld → (State → Outcome) → Type 0
OverflowsIf Has old f = (s : State) → IsItems old s → Has s → HaveRoom row_join words s.world (f s).moves → ⊥

-- the code did this step of the world, which was given something lawful
pub record DoesStep (new : ItemWorld) (told : ItemTold) (s : State) (st : Step K2vRow) : Type 0 where
  pub choice : Decision
  pub lawful : IsLawfulStep s.world st choice
  pub does : Does new told s (plain s (record { step = st; choice = choice }))

-- whatever state it stood for, it did this step
abbrev pub PlaysStep : ItemWorld → ItemWorld → ItemTold → Step K2vRow → Type 0
PlaysStep old new told st = ties.Steps IsItems old (λ s. DoesStep new told s st)

-- with something lawful given there is no room after the step
pub record LacksRoom (s : State) (st : Step K2vRow) : Type 0 where
  pub choice : Decision
  pub lawful : IsLawfulStep s.world st choice
  pub lacks : HaveRoom row_join words s.world (plain s (record { step = st; choice = choice })).moves → ⊥

-- whatever state it stood for, this step would not fit
abbrev pub OverflowsStep : ItemWorld → Step K2vRow → Type 0
OverflowsStep old st = ties.Steps IsItems old (λ s. LacksRoom s st)

-- the code did this event, which was given something lawful
pub record DoesEvent (new : ItemWorld) (told : ItemTold) (s : State) (event : ItemEvent) : Type 0 where
  pub choice : Decision
  pub lawful : IsLawfulAct s (act_of event choice)
  pub does : Does new told s (acted s (act_of event choice))

-- whatever state it stood for, it did this event
abbrev pub PlaysEvent : ItemWorld → ItemWorld → ItemTold → ItemEvent → Type 0
PlaysEvent old new told event = ties.Steps IsItems old (λ s. DoesEvent new told s event)

-- with something lawful given there is no room after the event
pub record EventLacksRoom (s : State) (event : ItemEvent) : Type 0 where
  pub choice : Decision
  pub lawful : IsLawfulAct s (act_of event choice)
  pub lacks : HaveRoom row_join words s.world (acted s (act_of event choice)).moves → ⊥

-- whatever state it stood for, this event would not fit
abbrev pub OverflowsEvent : ItemWorld → ItemEvent → Type 0
OverflowsEvent old event = ties.Steps IsItems old (λ s. EventLacksRoom s event)

-- roles are of nodes 1 to 64, and redundancies of one to three zones
abbrev pub IsMeantEvent : ItemEvent → Type 0
IsMeantEvent (Common (Role n role)) = IsMeant {R = K2vRow} (step.Role n role)
IsMeantEvent (Common (Redundancy wanted)) = IsMeant {R = K2vRow} (step.Redundancy wanted)
IsMeantEvent _ = ⊤

-- a step by itself that ends no request
abbrev pub IsQuiet : Step K2vRow → Type 0
IsQuiet (step.Expire q) = ⊥
IsQuiet (step.Restart n) = ⊥
IsQuiet st = IsOuter st

-- the node is a member
abbrev pub HasMember : ℕ → State → Type 0
HasMember n s = is_member_at layouts s.world n ≡ true

-- what request q does whose phase ended so
abbrev pub followed : ℕ → PhaseEnd K2vRow → State → Outcome
followed q end s = follow s q (numbered s.requests q) end

-- what a step of the world answers, as the answer of an event
abbrev pub told_of : Report K2vRow → ItemTold
told_of report = record { refused = option_map Cluster report.refused; words = report.words; lines = cluster_lines report.lines }

-- request q, at place i, is this one
pub record IsAt (c : ItemWorld) (i q : ℕ) (a : Asked) : Type 0 where
  pub place : i + 1 ≡ q
  pub there : slice_get c.requests i ≡ Some a

-- request q, at place i, is in this stage
pub record IsIn (c : ItemWorld) (i q : ℕ) (stage : Stage) : Type 0 where
  pub one : Asked
  pub at : IsAt c i q one
  pub is_in : one.stage ≡ stage

-- the row, or none, is what the request at place i stores that has read this
abbrev pub IsWritten : ItemWorld → ℕ → ℕ → K2vValue → ℕ → Option K2vRow → Option K2vRow → Type 0
IsWritten c i q value token read row = (a : Asked) → IsAt c i q a → row ≡ written c.requests q a value token read

-- this step of the world was done, and the request at place i is in this stage; these lines are told of what the step tells
pub record Goes (old new : ItemWorld) (told : ItemTold) (i : ℕ) (st : Step K2vRow) (stage : Stage)
    (lines : Report K2vRow → List ItemLine) : Type 0 where
  pub report : Report K2vRow
  pub steps : Steps row_join words old.world new.world report st
  pub rest : new ≡ record old { world = new.world; requests = with_stage old.requests i (slice_get old.requests i) stage }
  pub tells : told ≡ record { refused = None; words = Empty; lines = lines report }

-- the step by which request q stores this row
abbrev pub storing_step : ℕ → K2vRow → Step K2vRow
storing_step q row = step.Phase q (Store ((row, None) ∷ []))

-- request q, at place i, stores this row
abbrev pub Stores : ItemWorld → ItemWorld → ItemTold → ℕ → ℕ → K2vRow → Type 0
Stores old new told i q row = Goes old new told i (storing_step q row) Storing (λ report. cluster_lines report.lines)

-- request q, at place i, is closed, and this line is told
abbrev pub Closes : ItemWorld → ItemWorld → ItemTold → ℕ → ℕ → Stage → ItemLine → Type 0
Closes old new told i q stage line = Goes old new told i (step.Close q) stage (λ report. line ∷ [])

-- request q, at place i, finishes with what it read
abbrev pub Finishes : ItemWorld → ItemWorld → ItemTold → ℕ → ℕ → Option K2vRow → Type 0
Finishes old new told i q read = Closes old new told i q (Shown (read_token read)) (ReadDone q (values_told read))
