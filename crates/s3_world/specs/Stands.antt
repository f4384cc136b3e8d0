-- When the code's store stands for a state of the model, and what an act does to it.
use Rattle.std.specs.Prelude.{◌≡◌, ◌<◌, ◌≤◌, ℕ, ⊤, Some, None, List, [], Result, Ok, Err, length}
use Rattle.crdt_rows.specs.declared.any_row.AnyRow.{AnyRow}
use Rattle.crdt_rows.specs.AnyRow.{any_join}
use Rattle.object_schema.specs.Schema.{words}
use Rattle.cluster_machine.specs.Ties as ties
use Rattle.cluster_machine.specs.declared.step.Step.{Step}
use Rattle.cluster_machine.specs.declared.step.Step.TheVariants as step
use Rattle.layout_roles.specs.declared.cut.Cut.{Cut}
use Rattle.cluster_machine.specs.declared.step.Refusal.{Refusal}
use Rattle.cluster_machine.specs.declared.step.Words.TheVariants.{One}
use Rattle.cluster_machine.specs.Choices.{Decision}
use Rattle.cluster_machine.specs.World.{numbered}
use Rattle.cluster_machine.specs.Worlds.{IsMeant, FitAll}
use Rattle.flow_model.specs.declared.order.Order.{Order}
use Rattle.store_model.specs.declared.event.Event.{Event}
use Rattle.store_model.specs.declared.event.Event.TheVariants.{Block, Role, Redundancy, Put, Delete, Copy, Expire, Restart}
use Rattle.store_model.specs.declared.event.Told.{Told}
use Rattle.store_model.specs.Run.{State, Outcome}
use Rattle.store_model.specs.Acts.{Act, asks, acted, IsLawfulAct}
use Rattle.store_model.specs.Events.{act_of, outcome}
use Rattle.store_model.specs.Turns.{FitsOutcome}
use Rattle.world_core.specs.Stands.{StandsFor}
use Rattle.s3_world.specs.declared.world.S3World.{S3World}
use Rattle.s3_world.specs.Driven.{known, kept, IsSized}
use Rattle.s3_world.specs.Reads.{Handed, of, nothing_handed, asked_at, flow_in, AreRead}
use Rattle.s3_world.specs.Doing as doing
pub use Rattle.s3_world.specs.Doing.{Tells}

-- the code's store is this state of the model: its driver is, and its buckets and size of blocks are the state's; and these bytes were handed out
pub record Holds (given : Handed) (c : S3World) (s : State) : Type 0 where
  pub world : StandsFor any_join words c.driver.world s.world
  pub buckets : c.buckets ≡ s.buckets
  pub block : c.block ≡ s.block
  pub requests : (q : ℕ) → known (asked_at c.driver.requests q) ≡ kept (numbered s.asked q)
  pub ends : c.driver.ends ≡ s.ends
  pub history : c.driver.history.0 ≡ s.history
  pub sized : 0 < s.block
  pub flows : (q : ℕ) → IsSized (flow_in (asked_at c.driver.requests q))
  pub reads : AreRead given c.driver.requests s

-- the code's store is this state of the model, whatever was handed out
abbrev pub IsStore : S3World → State → Type 0
IsStore = Holds nothing_handed

-- and of request q just these bytes were handed out
abbrev pub IsGiving : S3World → State → ℕ → List ℕ → Type 0
IsGiving c s q bytes = Holds (of q bytes) c s

-- the store stands for some state: it was not given up
abbrev pub HasStore : S3World → Type 0
HasStore c = (s : State) × IsStore c s

-- whatever state the store stands for, this act may happen in it
abbrev pub Allows : S3World → Act → Type 0
Allows c act = ties.Steps IsStore c (λ s. IsLawfulAct s act)

-- roles are of nodes 1 to 64, redundancies of one to three zones, blocks have a byte or more, and so have the keys that are written
abbrev pub IsMeantEvent : Event → Type 0
IsMeantEvent (Block size) = 1 ≤ size
IsMeantEvent (Role n role) = IsMeant {R = AnyRow} (step.Role n role)
IsMeantEvent (Redundancy wanted) = IsMeant {R = AnyRow} (step.Redundancy wanted)
IsMeantEvent (Put n bucket key size fill) = 1 ≤ length key
IsMeantEvent (Delete n bucket key) = 1 ≤ length key
IsMeantEvent (Copy n from_bucket from_key bucket key) = 1 ≤ length key
IsMeantEvent _ = ⊤

-- the event ends no request
abbrev pub IsCalm : Event → Type 0
IsCalm (Expire q) = ⊥
IsCalm (Restart n) = ⊥
IsCalm event = ⊤

-- the step opens no request and ends none
abbrev pub IsQuiet : Step AnyRow → Type 0
IsQuiet (step.Open n) = ⊥
IsQuiet (step.Expire q) = ⊥
IsQuiet (step.Restart n) = ⊥
IsQuiet _ = ⊤

-- the store stands for the state after this outcome, and tells it; after each of its steps every number fits
abbrev pub Does : S3World → Told → State → Outcome → Type 0
Does = doing.Does IsStore

-- from old to new the store did what this outcome says, whatever state old stood for, and tells it
abbrev pub Plays : S3World → S3World → Told → (State → Outcome) → Type 0
Plays = doing.Plays IsStore

-- the same of an outcome without steps of the world
abbrev pub Becomes : S3World → S3World → (State → Outcome) → Type 0
Becomes = doing.Becomes IsStore

-- the same as Plays, of the states with a property
abbrev pub PlaysIf : (State → Type 0) → S3World → S3World → Told → (State → Outcome) → Type 0
PlaysIf = doing.PlaysIf IsStore

-- some number or row after this outcome would not fit
abbrev pub Overflows : S3World → (State → Outcome) → Type 0
Overflows = doing.Overflows IsStore

-- the same, of the states with a property
abbrev pub OverflowsIf : (State → Type 0) → S3World → (State → Outcome) → Type 0
OverflowsIf = doing.OverflowsIf IsStore

-- whatever state it stood for, it did this step, which was given something lawful
abbrev pub PlaysStep : S3World → S3World → Told → Step AnyRow → Type 0
PlaysStep = doing.PlaysStep IsStore

-- whatever state it stood for, this step would not fit
abbrev pub OverflowsStep : S3World → Step AnyRow → Type 0
OverflowsStep = doing.OverflowsStep IsStore

-- from old to new the store did what this outcome says, whatever state old stood for, and tells nothing
abbrev pub Carries : S3World → S3World → (State → Outcome) → Type 0
Carries = doing.Carries IsStore

-- the same, and what was handed out of a request stays so
abbrev pub Keeps : S3World → S3World → (State → Outcome) → Type 0
Keeps old new f = (given : Handed) → doing.Carries (Holds given) old new f

-- so it is of what it tells
abbrev pub KeepsTold : S3World → S3World → Told → (State → Outcome) → Type 0
KeepsTold old new told f = (given : Handed) → doing.Plays (Holds given) old new told f

-- of the states with a property
abbrev pub KeepsIf : (State → Type 0) → S3World → S3World → Told → (State → Outcome) → Type 0
KeepsIf Has old new told f = (given : Handed) → doing.PlaysIf (Holds given) Has old new told f

-- of a step, which was given something lawful
abbrev pub KeepsStep : S3World → S3World → Told → Step AnyRow → Type 0
KeepsStep old new told st = (given : Handed) → doing.PlaysStep (Holds given) old new told st

-- an outcome opened a request with this number, or was refused so
abbrev pub Answers : Result ℕ (Refusal Cut) → Outcome → Type 0
Answers (Ok number) o = (o.refused ≡ None) × (o.words ≡ One number)
Answers (Err reason) o = o.refused ≡ Some reason

-- a request was begun at a node, or refused, whatever state old stood for
abbrev pub Starts : S3World → S3World → Result ℕ (Refusal Cut) → ℕ → Order → Type 0
Starts old new answer node order = ties.Steps IsStore old (λ s. let o = acted s (asks node order) in IsStore new o.state × FitAll any_join words s.world o.moves × Answers answer o)

-- of a request that was begun nothing was handed out
abbrev pub GivesNone : S3World → S3World → Result ℕ (Refusal Cut) → ℕ → Order → Type 0
GivesNone old new (Ok number) node order = ties.Steps IsStore old (λ s. IsGiving new (acted s (asks node order)).state number [])
GivesNone old new (Err reason) node order = ⊤

-- the code did this event, which was given something lawful
abbrev pub DoesEvent : S3World → Told → State → Event → Type 0
DoesEvent = doing.DoesEvent IsStore

-- whatever state it stood for, it did this event
abbrev pub PlaysEvent : S3World → S3World → Told → Event → Type 0
PlaysEvent = doing.PlaysEvent IsStore

-- and what was handed out of a request stays so
abbrev pub KeepsIn : S3World → S3World → Told → Event → Type 0
KeepsIn old new told event = (given : Handed) → doing.PlaysEvent (Holds given) old new told event

-- with something lawful given there is no room after the event
pub record EventLacksRoom (s : State) (event : Event) : Type 0 where
  pub choice : Decision
  pub lawful : IsLawfulAct s (act_of event choice)
  pub lacks : FitsOutcome s (outcome s event choice) → ⊥

-- whatever state it stood for, this event would not fit
abbrev pub OverflowsEvent : S3World → Event → Type 0
OverflowsEvent old event = ties.Steps IsStore old (λ s. EventLacksRoom s event)
