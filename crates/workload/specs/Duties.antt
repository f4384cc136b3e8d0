-- What one node does in a change of the layout, as an event.
use Rattle.std.specs.Prelude.{ℕ}
use Rattle.store_model.specs.declared.event.Event.{Event}
use Rattle.store_model.specs.declared.event.Event.TheVariants as event
use Rattle.workload.specs.declared.duty.Duty.{Duty}
use Rattle.workload.specs.declared.duty.Duty.TheVariants as duty

-- the event by which a node does this
abbrev pub duty_of : Duty → ℕ → Event
duty_of duty.Restart n = event.Restart n
duty_of duty.Ack n = event.Ack n
duty_of duty.Sync n = event.Sync n
duty_of duty.SyncAck n = event.SyncAck n
duty_of duty.Clean n = event.Clean n
duty_of duty.Tell n = event.Gossip n 1
duty_of duty.Hear n = event.Gossip 1 n
