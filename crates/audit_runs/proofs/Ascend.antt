-- The events of a schedule stand in lines that ascend.
use Rattle.std.proofs.Common.{ℕ, zero, suc, ◌-◌, true, false, if◌then◌else◌, Option, Some, None, List, [], ◌∷◌, subst, arith}
use Rattle.std.specs.Prelude.{⊤}
use Rattle.store_model.specs.declared.event.Event.{Event}
use Rattle.store_model.specs.declared.event.Numbered.{Numbered}
use Rattle.text_model.specs.Grammar.{is_blank, lines_of}
use Rattle.text_model.specs.Reading.{event_of, Reading, schedule, bad_line, too_many, events_limit, event_before, event_among, line_before, reading_from, IsSchedule}
use Rattle.audit_model.specs.Heard.{AscendFrom}

-- events that were read stand behind line m, and ascend
abbrev Ascend : ℕ → Reading → Type 0
Ascend m (schedule es) = AscendFrom m es
Ascend m (bad_line k) = ⊤
Ascend m too_many = ⊤

-- what stands behind a later line stands behind this one
from_later : (m : ℕ) (es : List Numbered) → AscendFrom (suc m) es → AscendFrom m es
from_later m [] h = tt
from_later m (e ∷ es) h = let here = h.0 in (omega arith, h.1)

behind : (m : ℕ) (r : Reading) → Ascend (suc m) r → Ascend m r
behind m (schedule es) h = from_later m es h
behind m (bad_line k) h = tt
behind m too_many h = tt

before_ascends : (m : ℕ) (e : Event) (rest : Reading) → Ascend (suc m) rest → Ascend m (event_before (record { line = suc m; event = e }) rest)
before_ascends m e (schedule es) h = (omega arith, h)
before_ascends m e (bad_line k) h = tt
before_ascends m e too_many h = tt

among_ascends : (m room : ℕ) (e : Event) (rest : Reading) → Ascend (suc m) rest → Ascend m (event_among room (record { line = suc m; event = e }) rest)
among_ascends m zero e rest h = tt
among_ascends m (suc room) e rest h = before_ascends m e rest h

line_ascends : (m room : ℕ) (o : Option Event) (rest : Reading) → Ascend (suc m) rest → Ascend m (line_before (suc m) room o rest)
line_ascends m room None rest h = tt
line_ascends m room (Some e) rest h = among_ascends m room e rest h

from_ascends : (m room : ℕ) (lines : List (List ℕ)) → Ascend m (reading_from (suc m) room lines)
from_ascends m room [] = tt
from_ascends m room (line ∷ lines) =
    let rest = reading_from (suc (suc m)) (room - 1) lines in
    elim (is_blank line) as (λ b. Ascend m (if b then reading_from (suc (suc m)) room lines else line_before (suc m) room (event_of line) rest)) [
      | true ↦ behind m (reading_from (suc (suc m)) room lines) (from_ascends (suc m) room lines)
      | false ↦ line_ascends m room (event_of line) rest (from_ascends (suc m) (room - 1) lines)
    ]

pub schedule_ascends : (input : List ℕ) (events : List Numbered) → IsSchedule input events → AscendFrom 0 events
schedule_ascends input events h = subst (Ascend 0) h (from_ascends 0 events_limit (lines_of input))
