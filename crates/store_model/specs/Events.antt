-- The events of a schedule as acts, and the run of a list of turns.
use Rattle.std.specs.Prelude.{ℕ, zero, suc, ◌%◌, None, List, [], ◌∷◌, map}
use Rattle.cluster_machine.specs.declared.step.Step.TheVariants as step
use Rattle.cluster_machine.specs.Choices.{Decision}
use Rattle.flow_model.specs.declared.order.Order.TheVariants as order
use Rattle.store_model.specs.declared.event.Event.{Event}
use Rattle.store_model.specs.declared.event.Event.TheVariants.{Trio, Block, Bucket, Role, Redundancy, Apply, Tick, Skew, Put, Get, Head, Delete, Copy, List as Keys, Deliver, Lose, Drain, Expire, Restart, Gossip, Ack, Sync, SyncAck, Clean, Work, Repair, Collect}
use Rattle.store_model.specs.declared.event.Numbered.{Numbered}
use Rattle.store_model.specs.Run.{State, Outcome, plainly}
use Rattle.store_model.specs.Acts.{Act, moves, asks, delivery, drain, adds, cuts, acted, after_acts}

-- the bytes of an object of a schedule: size many, the first one fill, modulo 251
abbrev pub object_bytes : ℕ → ℕ → List ℕ
object_bytes zero fill = []
object_bytes (suc size) fill = fill % 251 ∷ object_bytes size (suc fill)

-- the act that an event is; an apply is given the choice, a put writes its bytes without headers, and a copy takes its source's
abbrev pub act_of : Event → Decision → Act
act_of Trio choice = moves (plainly step.Trio)
act_of (Block size) choice = cuts size
act_of (Bucket name) choice = adds name
act_of (Role n role) choice = moves (plainly (step.Role n role))
act_of (Redundancy wanted) choice = moves (plainly (step.Redundancy wanted))
act_of (Apply n) choice = moves (record { step = step.Apply n; choice = choice })
act_of (Tick ms) choice = moves (plainly (step.Tick ms))
act_of (Skew n ms) choice = moves (plainly (step.Skew n ms))
act_of (Put n bucket key size fill) choice = asks n (order.Put bucket key (object_bytes size fill) [])
act_of (Get n bucket key) choice = asks n (order.Get bucket key)
act_of (Head n bucket key) choice = asks n (order.Head bucket key)
act_of (Delete n bucket key) choice = asks n (order.Delete bucket key)
act_of (Copy n from_bucket from_key bucket key) choice = asks n (order.Copy from_bucket from_key bucket key None)
act_of (Keys n bucket prefix) choice = asks n (order.List bucket prefix)
act_of (Deliver m) choice = delivery m
act_of (Lose m) choice = moves (plainly (step.Lose m))
act_of (Drain n) choice = drain n
act_of (Expire q) choice = moves (plainly (step.Expire q))
act_of (Restart n) choice = moves (plainly (step.Restart n))
act_of (Gossip from to) choice = moves (plainly (step.Gossip from to))
act_of (Ack n) choice = moves (plainly (step.Ack n))
act_of (Sync n) choice = moves (plainly (step.Sync n))
act_of (SyncAck n) choice = moves (plainly (step.SyncAck n))
act_of (Clean n) choice = moves (plainly (step.Clean n))
act_of (Work n) choice = moves (plainly (step.Work n))
act_of (Repair n) choice = moves (plainly (step.Repair n))
act_of (Collect n) choice = moves (plainly (step.Collect n))

-- what comes of an event
abbrev pub outcome : State → Event → Decision → Outcome
outcome s event choice = acted s (act_of event choice)

-- an event of a schedule, and what it is given
pub record Turn : Type 0 where
  pub numbered : Numbered
  pub choice : Decision

-- the act that a turn is
abbrev pub act_of_turn : Turn → Act
act_of_turn t = act_of t.numbered.event t.choice

-- the acts that turns are
abbrev pub acts_of : List Turn → List Act
acts_of ts = map act_of_turn ts

-- the events of turns
abbrev pub events_of : List Turn → List Numbered
events_of ts = map (λ t. t.numbered) ts

-- what comes of an event, with what an apply in it is given
abbrev pub outcome_of : State → Turn → Outcome
outcome_of s t = acted s (act_of_turn t)

-- the state after an event
abbrev pub after : State → Turn → State
after s t = (outcome_of s t).state

-- the state after events in order
abbrev pub run : State → List Turn → State
run s ts = after_acts s (acts_of ts)
