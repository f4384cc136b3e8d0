-- What an input spells: the events of a schedule over items, or the first line outside the grammar, or too many events.
use Rattle.std.specs.Prelude.{◌≡◌, ℕ, zero, suc, ◌-◌, if◌then◌else◌, Option, Some, None, List, [], ◌∷◌}
use Rattle.text_model.specs.Grammar.{is_blank, lines_of}
use Rattle.text_model.specs.Reading.{events_limit}
use Rattle.k2v_text.specs.declared.event.NumberedItemEvent.{NumberedItemEvent}
use Rattle.k2v_text.specs.declared.event.ItemEvent.{ItemEvent}
use Rattle.k2v_text.specs.Reading.{event_of}

-- what a text spells
pub data Reading : Type 0 where
  schedule : List NumberedItemEvent → Reading  -- these events
  bad_line : ℕ → Reading  -- no events, and this is the first line outside the grammar
  too_many : Reading  -- more events than a schedule may have, before any line outside the grammar

-- an event, and what the lines after it spell
abbrev pub event_before : NumberedItemEvent → Reading → Reading
event_before e (schedule es) = schedule (e ∷ es)
event_before e (bad_line k) = bad_line k
event_before e too_many = too_many

-- an event for which there is room or none, and what the lines after it spell
abbrev pub event_among : ℕ → NumberedItemEvent → Reading → Reading
event_among zero e rest = too_many
event_among (suc room) e rest = event_before e rest

-- line n spells this event or none, where so many more events may come, and the lines after it spell the rest
abbrev pub line_before : ℕ → ℕ → Option ItemEvent → Reading → Reading
line_before n room None rest = bad_line n
line_before n room (Some e) rest = event_among room (record { line = n; event = e }) rest

-- what these lines spell, the first of which has number n, where so many more events may come
abbrev pub reading_from : ℕ → ℕ → List (List ℕ) → Reading
reading_from n room [] = schedule []
reading_from n room (line ∷ lines) =
    if is_blank line then reading_from (suc n) room lines else line_before n room (event_of line) (reading_from (suc n) (room - 1) lines)

-- what an input spells
abbrev pub reading : List ℕ → Reading
reading input = reading_from 1 events_limit (lines_of input)

-- the input is a schedule, and these are its events
abbrev pub IsSchedule : List ℕ → List NumberedItemEvent → Type 0
IsSchedule input events = reading input ≡ schedule events

-- line k of the input is the first outside the grammar, and no more events stand before it than a schedule may have
abbrev pub IsFirstBadLine : List ℕ → ℕ → Type 0
IsFirstBadLine input k = reading input ≡ bad_line k

-- the input has more events than a schedule may have, before any line outside the grammar
abbrev pub HasTooManyEvents : List ℕ → Type 0
HasTooManyEvents input = reading input ≡ too_many
