-- What a line adds to the events.
use Rattle.std.specs.Prelude.{◌≡◌, ◌⊎◌, ℕ, ◌<◌, ◌≤◌, IsTrue, IsFalse, List, [], ◌∷◌, ◌++◌, length}
use Rattle.text_model.specs.Grammar.{is_blank}
use Rattle.text_model.specs.Reading.{events_limit}
use Rattle.k2v_text.specs.declared.event.ItemEvent.{ItemEvent}
use Rattle.k2v_text.specs.declared.event.NumberedItemEvent.{NumberedItemEvent}
use Rattle.k2v_text.specs.Grammar.{Spells}

-- line n adds the event that it spells, for which there is room, or nothing where it is blank
abbrev pub AddsEvent : ℕ → List ℕ → List NumberedItemEvent → List NumberedItemEvent → Type 0
AddsEvent n line old new =
    (IsTrue (is_blank line) × (new ≡ old))
    ⊎ ((e : ItemEvent) × IsFalse (is_blank line) × Spells line e × (length old < events_limit) × (new ≡ old ++ record { line = n; event = e } ∷ []))

-- a line outside the grammar: it isn't blank, and spells no event
pub record IsBad (line : List ℕ) : Type 0 where
  pub not_blank : IsFalse (is_blank line)
  pub no_event : (event : ItemEvent) → Spells line event → ⊥

-- a line spells an event for which there is no room
pub record IsOver (line : List ℕ) (old : List NumberedItemEvent) : Type 0 where
  pub event : ItemEvent
  pub not_blank : IsFalse (is_blank line)
  pub spells : Spells line event
  pub full : events_limit ≤ length old
