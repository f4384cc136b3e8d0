-- The events of a schedule are meant, as are all that its grammar allows.
use Rattle.std.proofs.Common.{ℕ, List, arith}
use Rattle.std.specs.List.{All}
use Rattle.layout_roles.specs.declared.redundancy.Redundancy.TheVariants.{AtLeast, Maximum}
use Rattle.store_model.specs.declared.event.Event.{Event}
use Rattle.store_model.specs.declared.event.Event.TheVariants.{Role, Redundancy}
use Rattle.k2v_text.specs.declared.event.ItemEvent.{ItemEvent}
use Rattle.k2v_text.specs.declared.event.ItemEvent.TheVariants.{Common, Put, Delete, Get}
use Rattle.k2v_text.specs.declared.event.NumberedItemEvent.{NumberedItemEvent}
use Rattle.k2v_text.specs.Grammar.{IsAllowed}
use Rattle.k2v_text.specs.Schedule.{IsSchedule}
use Rattle.k2v_world.specs.Stands.{IsMeantEvent}

common_is_meant : (e : Event) → IsAllowed (Common e) → IsMeantEvent (Common e)
common_is_meant (Role n role) h = (h.0.0.0, omega arith)
common_is_meant (Redundancy (AtLeast r)) h = h.0
common_is_meant (Redundancy Maximum) h = tt
common_is_meant e h = tt

pub allowed_is_meant : (e : ItemEvent) → IsAllowed e → IsMeantEvent e
allowed_is_meant (Common e) h = common_is_meant e h
allowed_is_meant (Put n item size fill token) h = tt
allowed_is_meant (Delete n item token) h = tt
allowed_is_meant (Get n item) h = tt

-- the events of a schedule are meant
pub schedule_is_meant : ((input : List ℕ) (events : List NumberedItemEvent) → IsSchedule input events → All (λ (e : NumberedItemEvent). IsAllowed e.event) events) →
    (input : List ℕ) (events : List NumberedItemEvent) → IsSchedule input events → All (λ (e : NumberedItemEvent). IsMeantEvent e.event) events
schedule_is_meant allowed input events h k d lt = allowed_is_meant _ (allowed input events h k d lt)
