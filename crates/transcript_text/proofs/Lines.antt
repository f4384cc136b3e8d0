-- From the words of a line to the line.
use Rattle.std.proofs.Common.{◌≡◌, ℕ, List, Option, Some, None, Result, Ok, Err, Bor, refl, sym, ap, ◌∙◌, subst}
use Rattle.std.specs.List.{join_with_byte}
use Rattle.std.proofs.lemmas.List.Splits.{join_with_byte-slice_split}
use Rattle.text_model.specs.Words.{words_in}
use Rattle.schedule_text.specs.declared.fault.LineFault.{LineFault}
use Rattle.schedule_text.specs.declared.fault.LineFault.TheVariants.{Outside, Memory}
use Rattle.schedule_text.specs.Reads.{Reads, Finds}
use Rattle.schedule_text.specs.Kinds.{texts}
use Rattle.audit_model.specs.declared.said.Said.{Said}
use Rattle.audit_model.specs.Lines.{Says}
use Rattle.audit_model.specs.Reading.{said_of}
use Rattle.audit_model.proofs.Unique.{words_read}
use Rattle.audit_model.proofs.Decided.{said_is, is_said}
use Rattle.transcript_text.specs.Words.{IsSpelledBy}

-- a line with these words says it
line_says : (line : List ℕ) (s : Said) → IsSpelledBy (words_in line) s → Says line s
line_says line s h = record { spelled = sym (join_with_byte-slice_split 32 line) ∙ ap (join_with_byte 32) h.spelled; in_range = h.in_range }

-- the words of a line that says this
words_said : (line : List ℕ) (s : Said) → Says line s → IsSpelledBy (words_in line) s
words_said line s h = record { spelled = ap words_in h.spelled ∙ words_read s h.in_range; in_range = h.in_range }

says : (line : List ℕ) (r : Result Said LineFault) → Reads (IsSpelledBy (words_in line)) r → Reads (Says line) r
says line (Ok s) h = line_says line s h
says line (Err Outside) h = λ s says. h s (words_said line s says)
says line (Err Memory) h = tt

pub reads_line : (line : List ℕ) (words : List (Bor (List ℕ))) (r : Result Said LineFault) → texts words ≡ words_in line → Reads (IsSpelledBy (texts words)) r → Reads (Says line) r
reads_line line words r same h = says line r (let P : List (List ℕ) → Type 0 = λ ws. Reads (IsSpelledBy ws) r in subst P same h)

-- what is found is what is read
pub found_is_read : (line : List ℕ) (found : Option Said) → Finds (Says line) found → found ≡ said_of line
found_is_read line (Some s) h = sym (is_said line s h)
found_is_read line None h = none (said_of line) refl
  where
    none : (o : Option Said) → said_of line ≡ o → None ≡ o
    none None e = refl
    none (Some s) e = absurd (h s (said_is line s e))
