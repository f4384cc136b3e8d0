-- For all bytes an answer is stated.
use Rattle.std.proofs.Common.{ℕ, ◌⊎◌, inl, inr, List, refl}
use Rattle.lab_outside.specs.declared.exit.Status.{Status}
use Rattle.lab_outside.specs.declared.exit.Status.TheVariants.{Refused, Limit}
use Rattle.store_model.specs.declared.event.Numbered.{Numbered}
use Rattle.text_model.specs.Reading.{IsSchedule, IsFirstBadLine, HasTooManyEvents}
use Rattle.text_model.specs.Played.{AreScheduled}
use Rattle.replay_run.specs.Replay.{IsReplay}
use Rattle.replay_run.specs.declared.account.Account.{Account}
use Rattle.replay_command.specs.Answer.{events_line, bad_line_text, IsAnswer, bad_line, many_events, replayed}

-- a text is a schedule, has a first bad line, or has too many events
abbrev pub Reads : List ℕ → Type 0
Reads input = ((events : List Numbered) × IsSchedule input events) ⊎ (((n : ℕ) × IsFirstBadLine input n) ⊎ HasTooManyEvents input)

-- a schedule is within the limits
abbrev pub EveryFits : Type 0
EveryFits = (input : List ℕ) (events : List Numbered) → IsSchedule input events → AreScheduled events

-- a replay of any events that are within them has a stated end
abbrev pub EveryEnds : Type 0
EveryEnds = (account : Account) (events : List Numbered) → AreScheduled events → (status : Status) × ((text : List ℕ) × IsReplay account events status text)

module _ (fits : EveryFits) (ends : EveryEnds) (account : Account) (input : List ℕ) where
  of_reading : Reads input → (status : Status) × ((text : List ℕ) × IsAnswer account input status text)
  of_reading (inl h) = let end = ends account h.0 (fits input h.0 h.1) in (end.0, (end.1.0, replayed h.0 h.1 end.1.1))
  of_reading (inr (inl h)) = (Refused, (bad_line_text h.0, bad_line h.0 h.1 refl refl))
  of_reading (inr (inr h)) = (Limit, (events_line, many_events h refl refl))

pub is_stated : ((input : List ℕ) → Reads input) → EveryFits → EveryEnds → (account : Account) (input : List ℕ) → (status : Status) × ((text : List ℕ) × IsAnswer account input status text)
is_stated reads fits ends account input = of_reading fits ends account input (reads input)
