-- What a line adds to the events.
use Rattle.std.specs.Prelude.{◌≡◌, ◌⊎◌, ℕ, ◌<◌, ◌≤◌, IsTrue, IsFalse, List, [], ◌∷◌, ◌++◌, length}
use Rattle.store_model.specs.declared.event.Event.{Event}
use Rattle.store_model.specs.declared.event.Numbered.{Numbered}
use Rattle.text_model.specs.Grammar.{Spells, is_blank}
use Rattle.text_model.specs.Reading.{events_limit}

-- line n adds the event that it spells, for which there is room, or nothing where it is blank
abbrev pub AddsEvent : ℕ → List ℕ → List Numbered → List Numbered → Type 0
AddsEvent n line old new =
    (IsTrue (is_blank line) × (new ≡ old)) ⊎ ((e : Event) × IsFalse (is_blank line) × Spells line e × (length old < events_limit) × (new ≡ old ++ record { line = n; event = e } ∷ []))

-- a line outside the grammar: it isn't blank, and spells no event
pub record IsBad (line : List ℕ) : Type 0 where
  pub not_blank : IsFalse (is_blank line)
  pub no_event : (event : Event) → Spells line event → ⊥

-- a line spells an event for which there is no room
pub record IsOver (line : List ℕ) (old : List Numbered) : Type 0 where
  pub event : Event
  pub not_blank : IsFalse (is_blank line)
  pub spells : Spells line event
  pub full : events_limit ≤ length old
