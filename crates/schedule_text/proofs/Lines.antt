-- From the words of a line to the line.
use Rattle.std.proofs.Common.{◌≡◌, ℕ, ◌≤◌, Some, None, List, length, take, length-take, Result, Ok, Err, Bor, sym, ◌∙◌, subst, arith, lit≤}
use Rattle.std.proofs.lemmas.List.{take_all}
use Rattle.store_model.specs.declared.event.Event.{Event}
use Rattle.store_model.specs.declared.event.Event.TheVariants.{Role}
use Rattle.text_model.specs.Grammar.{Spells, words_of}
use Rattle.text_model.specs.Words.{words_in, IsSpelledBy}
use Rattle.text_model.proofs.Spelled.{words_spelled, line_spelled}
use Rattle.schedule_text.specs.declared.fault.LineFault.{LineFault}
use Rattle.schedule_text.specs.declared.fault.LineFault.TheVariants.{Outside, Memory}
use Rattle.schedule_text.specs.Reads.{Reads}
use Rattle.schedule_text.specs.Kinds.{texts}

-- an event has six words at most
few : (e : Event) → length (words_of e) ≤ 6
few (Role _ None) = lit≤ tt
few (Role _ (Some _)) = lit≤ tt
few e = lit≤ tt

taken : (ws : List (List ℕ)) → length (take 7 ws) ≤ 6 → take 7 ws ≡ ws
taken ws h = take_all 7 ws (let l = length-take 7 ws in omega arith)

from_taken : (ws : List (List ℕ)) (e : Event) → IsSpelledBy (take 7 ws) e → IsSpelledBy ws e
from_taken ws e h =
    let short : length (take 7 ws) ≤ 6 = rw h.spelled (few e) in
    record { spelled = sym (taken ws short) ∙ h.spelled; allowed = h.allowed }

to_taken : (ws : List (List ℕ)) (e : Event) → IsSpelledBy ws e → IsSpelledBy (take 7 ws) e
to_taken ws e h =
    let n : length ws ≤ 6 = rw h.spelled (few e) in
    record { spelled = take_all 7 ws (omega arith) ∙ h.spelled; allowed = h.allowed }

spells : (line : List ℕ) (r : Result Event LineFault) → Reads (IsSpelledBy (take 7 (words_in line))) r → Reads (Spells line) r
spells line (Ok e) h = line_spelled line e (from_taken (words_in line) e h)
spells line (Err Outside) h = λ e s. h e (to_taken (words_in line) e (words_spelled line e s))
spells line (Err Memory) h = tt

pub reads_line : (line : List ℕ) (words : List (Bor (List ℕ))) (r : Result Event LineFault) → texts words ≡ take 7 (words_in line) → Reads (IsSpelledBy (texts words)) r → Reads (Spells line) r
reads_line line words r same h =
    spells line r (let P : List (List ℕ) → Type 0 = λ ws. Reads (IsSpelledBy ws) r in subst P same h)
