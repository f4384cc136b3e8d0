-- What the command answers: the status and the text that are stated for the bytes of its input.
use Rattle.std.specs.Prelude.{◌≡◌, ◌⊎◌, ℕ, ⊤, List, [], ◌∷◌, ◌++◌, codes, decimal}
use Rattle.lab_outside.specs.declared.exit.Status.{Status}
use Rattle.lab_outside.specs.declared.exit.Status.TheVariants.{Done, Refused, Limit}
use Rattle.k2v_text.specs.declared.event.NumberedItemEvent.{NumberedItemEvent}
use Rattle.k2v_text.specs.Schedule.{IsSchedule, IsFirstBadLine, HasTooManyEvents}
use Rattle.k2v_replay.specs.Replay.{IsReplay}

-- the input has more events than a schedule may have
abbrev pub events_line : List ℕ
events_line = codes "limit events 100000" ++ 10 ∷ []

-- the line that is no event, by its number
abbrev pub bad_line_text : ℕ → List ℕ
bad_line_text n = codes "bad line " ++ (decimal n ++ 10 ∷ [])

-- the status and the text that are stated for the schedule that bytes spell, in the order in which their causes come; which greatest assignments are given is free
pub data IsAnswer (input : List ℕ) (status : Status) (text : List ℕ) : Type 0 where
  bad_line : (n : ℕ) → IsFirstBadLine input n → status ≡ Refused → text ≡ bad_line_text n → IsAnswer input status text
  many_events : HasTooManyEvents input → status ≡ Limit → text ≡ events_line → IsAnswer input status text
  replayed : (events : List NumberedItemEvent) → IsSchedule input events → IsReplay events status text → IsAnswer input status text

-- the statuses of a replay of events, which the free layouts may decide
abbrev pub IsOfReplay : Status → Type 0
IsOfReplay Done = ⊤
IsOfReplay Limit = ⊤
IsOfReplay _ = ⊥

-- the input spells a schedule, and both statuses are those of a replay
pub record AreOfReplay (input : List ℕ) (result status : Status) : Type 0 where
  pub events : List NumberedItemEvent
  pub spells : IsSchedule input events
  pub answered : IsOfReplay result
  pub stated : IsOfReplay status

-- the status that came is the one that is stated; a replay of a schedule may end with the one that other layouts bring
abbrev pub Agree : List ℕ → Status → Status → Type 0
Agree input result status = (result ≡ status) ⊎ AreOfReplay input result status
