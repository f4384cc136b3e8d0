-- What the lines of a text spell.
use Rattle.std.proofs.Common.{◌≡◌, ℕ, zero, suc, ◌-◌, ◌⊎◌, inl, inr, true, false, if◌then◌else◌, Option, Some, None, List, [], ◌∷◌, ◌++◌, refl, ap, subst}
use Rattle.std.specs.List.{All}
use Rattle.std.proofs.lemmas.List.Elements.{All-nil, All-cons}
use Rattle.k2v_text.specs.declared.event.ItemEvent.{ItemEvent}
use Rattle.k2v_text.specs.declared.event.NumberedItemEvent.{NumberedItemEvent}
use Rattle.text_model.specs.Grammar.{is_blank, lines_of}
use Rattle.text_model.specs.Reading.{events_limit}
use Rattle.k2v_text.specs.Grammar.{IsAllowed}
use Rattle.k2v_text.specs.Reading.{event_of}
use Rattle.k2v_text.specs.Schedule.{Reading, schedule, bad_line, too_many, event_before, event_among, line_before, reading_from, reading, IsSchedule, IsFirstBadLine, HasTooManyEvents}
use Rattle.k2v_text.proofs.Decided.{event_is_spelled}

-- events, and what the lines after them spell
abbrev pub events_before : List NumberedItemEvent → Reading → Reading
events_before [] rest = rest
events_before (e ∷ es) rest = event_before e (events_before es rest)

pub before_push : (es : List NumberedItemEvent) (e : NumberedItemEvent) (rest : Reading) → events_before (es ++ e ∷ []) rest ≡ events_before es (event_before e rest)
before_push [] e rest = refl
before_push (x ∷ xs) e rest = ap (event_before x) (before_push xs e rest)

pub before_none : (es : List NumberedItemEvent) → events_before es (schedule []) ≡ schedule es
before_none [] = refl
before_none (e ∷ es) = ap (event_before e) (before_none es)

pub before_bad : (es : List NumberedItemEvent) (k : ℕ) → events_before es (bad_line k) ≡ bad_line k
before_bad [] k = refl
before_bad (e ∷ es) k = ap (event_before e) (before_bad es k)

pub before_many : (es : List NumberedItemEvent) → events_before es too_many ≡ too_many
before_many [] = refl
before_many (e ∷ es) = ap (event_before e) (before_many es)

abbrev AreAllowed : Reading → Type 0
AreAllowed (schedule es) = All (λ (e : NumberedItemEvent). IsAllowed e.event) es
AreAllowed (bad_line k) = Unit {0}
AreAllowed too_many = Unit {0}

event_allowed : (e : NumberedItemEvent) (rest : Reading) → IsAllowed e.event → AreAllowed rest → AreAllowed (event_before e rest)
event_allowed e (schedule es) h k = All-cons (λ (x : NumberedItemEvent). IsAllowed x.event) e es h k
event_allowed e (bad_line n) h k = tt
event_allowed e too_many h k = tt

among_allowed : (room : ℕ) (e : NumberedItemEvent) (rest : Reading) → IsAllowed e.event → AreAllowed rest → AreAllowed (event_among room e rest)
among_allowed zero e rest h k = tt
among_allowed (suc room) e rest h k = event_allowed e rest h k

line_allowed : (n room : ℕ) (line : List ℕ) (o : Option ItemEvent) (rest : Reading) → event_of line ≡ o → AreAllowed rest → AreAllowed (line_before n room o rest)
line_allowed n room line None rest h k = tt
line_allowed n room line (Some e) rest h k = among_allowed room (record { line = n; event = e }) rest (let is = event_is_spelled line e h in (is.allowed, is.kind)) k

from_allowed : (n room : ℕ) (lines : List (List ℕ)) → AreAllowed (reading_from n room lines)
from_allowed n room [] = All-nil (λ (x : NumberedItemEvent). IsAllowed x.event)
from_allowed n room (line ∷ lines) =
    elim (is_blank line) as (λ b. AreAllowed (if b then reading_from (suc n) room lines else line_before n room (event_of line) (reading_from (suc n) (room - 1) lines))) [
      | true ↦ from_allowed (suc n) room lines
      | false ↦ line_allowed n room line (event_of line) (reading_from (suc n) (room - 1) lines) refl (from_allowed (suc n) (room - 1) lines)
    ]

-- the events of a schedule are in their ranges
pub schedule_allowed : (input : List ℕ) (events : List NumberedItemEvent) → IsSchedule input events → All (λ (e : NumberedItemEvent). IsAllowed e.event) events
schedule_allowed input events h = subst AreAllowed h (from_allowed 1 events_limit (lines_of input))

-- one of the three
abbrev pub IsRead : List ℕ → Type 0
IsRead input = ((events : List NumberedItemEvent) × IsSchedule input events) ⊎ (((k : ℕ) × IsFirstBadLine input k) ⊎ HasTooManyEvents input)

is_read : (input : List ℕ) (r : Reading) → reading input ≡ r → IsRead input
is_read input (schedule es) h = inl (es, h)
is_read input (bad_line k) h = inr (inl (k, h))
is_read input too_many h = inr (inr h)

pub every_input : (input : List ℕ) → IsRead input
every_input input = is_read input (reading input) refl
