-- The events of a schedule over items as acts, and the run of a list of turns.
use Rattle.std.specs.Prelude.{List, map}
use Rattle.k2v_rows.specs.declared.value.K2vValue.TheVariants.{Deleted, Value}
use Rattle.cluster_machine.specs.declared.step.Step.TheVariants as step
use Rattle.cluster_machine.specs.Choices.{Decision}
use Rattle.store_model.specs.declared.event.Event.{Event}
use Rattle.store_model.specs.declared.event.Event.TheVariants as event
use Rattle.store_model.specs.Events.{object_bytes}
use Rattle.k2v_model.specs.declared.order.Ask.TheVariants.{Write, Read}
use Rattle.k2v_model.specs.Run.{State, Outcome, plainly}
use Rattle.k2v_model.specs.Acts.{Act, moves, asks, delivery, drain, adds, acted, after_acts}
use Rattle.k2v_text.specs.declared.event.ItemEvent.{ItemEvent}
use Rattle.k2v_text.specs.declared.event.ItemEvent.TheVariants.{Common, Put, Delete, Get}
use Rattle.k2v_text.specs.declared.event.NumberedItemEvent.{NumberedItemEvent}

-- the act that an event is which both kinds of schedules have; no line of a schedule over items spells another, which does nothing
abbrev pub common_act : Event → Decision → Act
common_act event.Trio choice = moves (plainly step.Trio)
common_act (event.Bucket name) choice = adds name
common_act (event.Role n role) choice = moves (plainly (step.Role n role))
common_act (event.Redundancy wanted) choice = moves (plainly (step.Redundancy wanted))
common_act (event.Apply n) choice = moves (record { step = step.Apply n; choice = choice })
common_act (event.Tick ms) choice = moves (plainly (step.Tick ms))
common_act (event.Skew n ms) choice = moves (plainly (step.Skew n ms))
common_act (event.Deliver m) choice = delivery m
common_act (event.Lose m) choice = moves (plainly (step.Lose m))
common_act (event.Drain n) choice = drain n
common_act (event.Expire q) choice = moves (plainly (step.Expire q))
common_act (event.Restart n) choice = moves (plainly (step.Restart n))
common_act (event.Gossip from to) choice = moves (plainly (step.Gossip from to))
common_act (event.Ack n) choice = moves (plainly (step.Ack n))
common_act (event.Sync n) choice = moves (plainly (step.Sync n))
common_act (event.SyncAck n) choice = moves (plainly (step.SyncAck n))
common_act (event.Clean n) choice = moves (plainly (step.Clean n))
common_act (event.Work n) choice = moves (plainly (step.Work n))
common_act (event.Repair n) choice = moves (plainly (step.Repair n))
common_act (event.Collect n) choice = moves (plainly (step.Collect n))
common_act other choice = drain 0

-- the act that an event is; an apply is given the choice
abbrev pub act_of : ItemEvent → Decision → Act
act_of (Common e) choice = common_act e choice
act_of (Put n item size fill token) choice = asks n (record { item = item; ask = Write (Value (object_bytes size fill)) token })
act_of (Delete n item token) choice = asks n (record { item = item; ask = Write Deleted token })
act_of (Get n item) choice = asks n (record { item = item; ask = Read })

-- an event of a schedule, and what it is given
pub record Turn : Type 0 where
  pub numbered : NumberedItemEvent
  pub choice : Decision

-- the act that a turn is
abbrev pub act_of_turn : Turn → Act
act_of_turn t = act_of t.numbered.event t.choice

-- what comes of an event
abbrev pub outcome_of : State → Turn → Outcome
outcome_of s t = acted s (act_of_turn t)

-- the state after an event
abbrev pub after : State → Turn → State
after s t = (outcome_of s t).state

-- the state after events in order
abbrev pub run : State → List Turn → State
run s ts = after_acts s (map act_of_turn ts)
