-- The events of a schedule stand in lines whose numbers are at most its bytes.
use Rattle.std.proofs.Common.{ℕ, zero, suc, ◌+◌, ◌-◌, ◌<◌, ◌≤◌, ◌^◌, ◌==◌, true, false, if◌then◌else◌, length, Option, Some, None, List, [], ◌∷◌, subst, arith}
use Rattle.std.specs.Prelude.{⊤}
use Rattle.std.specs.List.{AllByRecursion}
use Rattle.store_model.specs.declared.event.Event.{Event}
use Rattle.store_model.specs.declared.event.Numbered.{Numbered}
use Rattle.text_model.specs.Grammar.{is_blank, lines_of, onto_first}
use Rattle.text_model.specs.Reading.{event_of, Reading, schedule, bad_line, too_many, events_limit, event_before, event_among, line_before, reading_from, IsSchedule}
use Rattle.audit_runs.specs.Whole.{AreNumbered}

-- each of these events stands in line n or before it
abbrev AreUpTo : ℕ → List Numbered → Type 0
AreUpTo n events = AllByRecursion (λ (e : Numbered). e.line ≤ n) events

abbrev UpTo : ℕ → Reading → Type 0
UpTo n (schedule es) = AreUpTo n es
UpTo n (bad_line k) = ⊤
UpTo n too_many = ⊤

before_up : (m n : ℕ) → m ≤ n → (e : Event) (rest : Reading) → UpTo n rest → UpTo n (event_before (record { line = m; event = e }) rest)
before_up m n le e (schedule es) h = (le, h)
before_up m n le e (bad_line k) h = tt
before_up m n le e too_many h = tt

among_up : (m n room : ℕ) → m ≤ n → (e : Event) (rest : Reading) → UpTo n rest → UpTo n (event_among room (record { line = m; event = e }) rest)
among_up m n zero le e rest h = tt
among_up m n (suc room) le e rest h = before_up m n le e rest h

line_up : (m n room : ℕ) → m ≤ n → (o : Option Event) (rest : Reading) → UpTo n rest → UpTo n (line_before m room o rest)
line_up m n room le None rest h = tt
line_up m n room le (Some e) rest h = among_up m n room le e rest h

-- of so many lines, the first of which has number m + 1, the last has number n
from_up : (m n room : ℕ) (lines : List (List ℕ)) → m + length lines ≤ n → UpTo n (reading_from (suc m) room lines)
from_up m n room [] le = tt
from_up m n room (line ∷ lines) le =
    let rest = reading_from (suc (suc m)) (room - 1) lines in
    elim (is_blank line) as (λ b. UpTo n (if b then reading_from (suc (suc m)) room lines else line_before (suc m) room (event_of line) rest)) [
      | true ↦ from_up (suc m) n room lines (omega arith)
      | false ↦ line_up (suc m) n room (omega arith) (event_of line) rest (from_up (suc m) n (room - 1) lines (omega arith))
    ]

-- a text has no more lines than bytes
onto_lines : (b : ℕ) (lines : List (List ℕ)) (n : ℕ) → length lines ≤ n → length (onto_first b lines) ≤ suc n
onto_lines b [] n le = omega arith
onto_lines b (l ∷ ls) n le = omega arith

few_lines : (t : List ℕ) → length (lines_of t) ≤ length t
few_lines [] = omega arith
few_lines (b ∷ bs) =
    let rest = few_lines bs in
    elim (b == 10) as (λ c. length (if c then [] ∷ lines_of bs else onto_first b (lines_of bs)) ≤ suc (length bs)) [
      | true ↦ omega arith
      | false ↦ onto_lines b (lines_of bs) (length bs) rest
    ]

all_small : (n : ℕ) → n < 2 ^ 64 → (es : List Numbered) → AreUpTo n es → AreNumbered es
all_small n small [] h = tt
all_small n small (e ∷ es) h = let here = h.0 in (omega arith, all_small n small es h.1)

pub schedule_numbered : (input : List ℕ) (events : List Numbered) → IsSchedule input events → length input < 2 ^ 64 → AreNumbered events
schedule_numbered input events is small =
    let few = few_lines input in
    all_small (length input) small events (subst (UpTo (length input)) is (from_up 0 (length input) events_limit (lines_of input) (omega arith)))
