-- For all bytes an answer is stated.
use Rattle.std.proofs.Common.{ℕ, ◌⊎◌, inl, inr, List, refl}
use Rattle.lab_outside.specs.declared.exit.Status.{Status}
use Rattle.lab_outside.specs.declared.exit.Status.TheVariants.{Refused, Limit}
use Rattle.k2v_text.specs.declared.event.NumberedItemEvent.{NumberedItemEvent}
use Rattle.k2v_text.specs.Schedule.{IsSchedule, IsFirstBadLine, HasTooManyEvents}
use Rattle.k2v_limits.specs.Limits.{AreScheduled}
use Rattle.k2v_replay.specs.Replay.{IsReplay}
use Rattle.k2v_api.specs.Answer.{events_line, bad_line_text, IsAnswer, bad_line, many_events, replayed}

-- a text is a schedule, has a first bad line, or has too many events
abbrev pub Reads : List ℕ → Type 0
Reads input = ((events : List NumberedItemEvent) × IsSchedule input events) ⊎ (((n : ℕ) × IsFirstBadLine input n) ⊎ HasTooManyEvents input)

-- a schedule is within the limits
abbrev pub EveryFits : Type 0
EveryFits = (input : List ℕ) (events : List NumberedItemEvent) → IsSchedule input events → AreScheduled events

-- a replay of any events that are within them has a stated end
abbrev pub EveryEnds : Type 0
EveryEnds = (events : List NumberedItemEvent) → AreScheduled events → (status : Status) × ((text : List ℕ) × IsReplay events status text)

module _ (fits : EveryFits) (ends : EveryEnds) (input : List ℕ) where
  of_reading : Reads input → (status : Status) × ((text : List ℕ) × IsAnswer input status text)
  of_reading (inl h) = let end = ends h.0 (fits input h.0 h.1) in (end.0, (end.1.0, replayed h.0 h.1 end.1.1))
  of_reading (inr (inl h)) = (Refused, (bad_line_text h.0, bad_line h.0 h.1 refl refl))
  of_reading (inr (inr h)) = (Limit, (events_line, many_events h refl refl))

pub is_stated : ((input : List ℕ) → Reads input) → EveryFits → EveryEnds → (input : List ℕ) → (status : Status) × ((text : List ℕ) × IsAnswer input status text)
is_stated reads fits ends input = of_reading fits ends input (reads input)
