-- A schedule that is read has at most 100,000 events, whose words are in their ranges.
use Rattle.std.specs.Prelude.{◌≤◌, ◌-◌, ℕ, zero, suc, true, false, if◌then◌else◌, Option, Some, None, List, [], ◌∷◌, length, ⊤}
use Rattle.std.proofs.Common.{subst, arith}
use Rattle.std.proofs.lemmas.List.Elements.{recursion_from_All}
use Rattle.text_model.specs.Grammar.{is_blank, lines_of}
use Rattle.text_model.specs.Reading.{events_limit}
use Rattle.k2v_text.specs.declared.event.ItemEvent.{ItemEvent}
use Rattle.k2v_text.specs.declared.event.NumberedItemEvent.{NumberedItemEvent}
use Rattle.k2v_text.specs.Grammar.{IsAllowed}
use Rattle.k2v_text.specs.Reading.{event_of}
use Rattle.k2v_text.specs.Schedule.{Reading, schedule, bad_line, too_many, event_before, event_among, line_before, reading_from, IsSchedule}
use Rattle.k2v_text.proofs.Schedules.{schedule_allowed}
use Rattle.k2v_limits.specs.Limits.{AreScheduled}

-- it reads at most so many events
abbrev AreFew : ℕ → Reading → Type 0
AreFew room (schedule es) = length es ≤ room
AreFew room (bad_line k) = ⊤
AreFew room too_many = ⊤

before_few : (room : ℕ) (e : NumberedItemEvent) (rest : Reading) → AreFew room rest → AreFew (suc room) (event_before e rest)
before_few room e (schedule es) h = omega arith
before_few room e (bad_line k) h = tt
before_few room e too_many h = tt

among_few : (room : ℕ) (e : NumberedItemEvent) (rest : Reading) → AreFew (room - 1) rest → AreFew room (event_among room e rest)
among_few zero e rest h = tt
among_few (suc room) e rest h = before_few room e rest (subst (λ n. AreFew n rest) (omega arith) h)

line_few : (n room : ℕ) (o : Option ItemEvent) (rest : Reading) → AreFew (room - 1) rest → AreFew room (line_before n room o rest)
line_few n room None rest h = tt
line_few n room (Some e) rest h = among_few room (record { line = n; event = e }) rest h

from_few : (n room : ℕ) (lines : List (List ℕ)) → AreFew room (reading_from n room lines)
from_few n room [] = omega arith
from_few n room (line ∷ lines) =
    elim (is_blank line) as (λ b. AreFew room (if b then reading_from (suc n) room lines else line_before n room (event_of line) (reading_from (suc n) (room - 1) lines))) [
      | true ↦ from_few (suc n) room lines
      | false ↦ line_few n room (event_of line) (reading_from (suc n) (room - 1) lines) (from_few (suc n) (room - 1) lines)
    ]

pub schedule_is_within : (input : List ℕ) (events : List NumberedItemEvent) → IsSchedule input events → AreScheduled events
schedule_is_within input events h = record {
  few = subst (AreFew events_limit) h (from_few 1 events_limit (lines_of input));
  allowed = recursion_from_All (λ (e : NumberedItemEvent). IsAllowed e.event) events (schedule_allowed input events h);
}
