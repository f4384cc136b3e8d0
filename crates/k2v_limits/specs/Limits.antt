-- The limits of schedules over items.
use Rattle.std.specs.Prelude.{◌≤◌, List, length}
use Rattle.std.specs.List.{AllByRecursion}
use Rattle.k2v_text.specs.declared.event.NumberedItemEvent.{NumberedItemEvent}
use Rattle.k2v_text.specs.Grammar.{IsAllowed}
use Rattle.k2v_text.specs.Events.{Turn}

-- each of these events has its words in their ranges
abbrev pub AreAllowed : List Turn → Type 0
AreAllowed turns = AllByRecursion (λ (t : Turn). IsAllowed t.numbered.event) turns

-- at most 100,000 events, whose words are in the ranges of a schedule
pub record AreScheduled (events : List NumberedItemEvent) : Type 0 where
  pub few : length events ≤ 100000
  pub allowed : AllByRecursion (λ (e : NumberedItemEvent). IsAllowed e.event) events
