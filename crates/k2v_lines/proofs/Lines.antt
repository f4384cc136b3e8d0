-- From the words of a line to the line.
use Rattle.std.proofs.Common.{◌≡◌, ℕ, ◌≤◌, Bool, true, false, Some, None, List, [], ◌∷◌, length, take, length-take, Bor, codes, refl, sym, ◌∙◌, ap, subst, arith, lit≤}
use Rattle.std.specs.Prelude.{Result, Ok, Err}
use Rattle.schedule_text.specs.declared.fault.LineFault.{LineFault}
use Rattle.schedule_text.specs.declared.fault.LineFault.TheVariants.{Outside, Memory}
use Rattle.std.specs.List.{join_with_byte}
use Rattle.std.proofs.lemmas.List.{take_all}
use Rattle.std.proofs.lemmas.List.Splits.{join_with_byte-slice_split}
use Rattle.store_model.specs.declared.event.Event.{Event}
use Rattle.store_model.specs.declared.event.Event.TheVariants.{Role}
use Rattle.text_model.specs.Grammar.{words_of as common_words}
use Rattle.text_model.specs.Words.{words_in}
use Rattle.schedule_text.specs.Kinds.{texts}
use Rattle.schedule_text.specs.Reads.{Reads}
use Rattle.k2v_text.specs.declared.event.ItemEvent.{ItemEvent}
use Rattle.k2v_text.specs.declared.event.ItemEvent.TheVariants.{Common, Put, Delete, Get}
use Rattle.k2v_text.specs.Grammar.{words_of, Spells}
use Rattle.k2v_text.proofs.Spelled.{words_spelled}
use Rattle.k2v_lines.specs.Words.{IsSpelledBy, IsCommon}

-- an event has eight words at most
few_common : (e : Event) → length (common_words e) ≤ 8
few_common (Role _ None) = lit≤ tt
few_common (Role _ (Some _)) = lit≤ tt
few_common e = lit≤ tt

few : (e : ItemEvent) → length (words_of e) ≤ 8
few (Common e) = few_common e
few (Put n i size fill token) = lit≤ tt
few (Delete n i token) = lit≤ tt
few (Get n i) = lit≤ tt

taken : (ws : List (List ℕ)) → length (take 9 ws) ≤ 8 → take 9 ws ≡ ws
taken ws h = take_all 9 ws (let l = length-take 9 ws in omega arith)

line_spelled : (line : List ℕ) (e : ItemEvent) → IsSpelledBy (take 9 (words_in line)) e → Spells line e
line_spelled line e h =
    let short : length (take 9 (words_in line)) ≤ 8 = rw h.spelled (few e) in
    record {
      spelled = sym (join_with_byte-slice_split 32 line) ∙ ap (join_with_byte 32) (sym (taken (words_in line) short) ∙ h.spelled);
      allowed = h.allowed;
      kind = h.kind;
    }

words_taken : (line : List ℕ) (e : ItemEvent) → Spells line e → IsSpelledBy (take 9 (words_in line)) e
words_taken line e h =
    let w = words_spelled line e h in
    let n : length (words_in line) ≤ 8 = rw w (few e) in
    record { spelled = take_all 9 (words_in line) (omega arith) ∙ w; allowed = h.allowed; kind = h.kind }

-- what is read of the words of a line is read of the line
reads_line : (line : List ℕ) (ws : List (List ℕ)) (r : Result ItemEvent LineFault) → take 9 (words_in line) ≡ ws → Reads (IsSpelledBy ws) r → Reads (Spells line) r
reads_line line ws (Ok e) same h = line_spelled line e (subst (λ (xs : List (List ℕ)). IsSpelledBy xs e) (sym same) h)
reads_line line ws (Err Outside) same none = λ e h. none e (subst (λ (xs : List (List ℕ)). IsSpelledBy xs e) same (words_taken line e h))
reads_line line ws (Err Memory) same h = tt

-- a line whose first word is of no request for an item spells one that schedules of objects have, or none
module _ (line name : List ℕ) (rest : List (List ℕ)) (same : take 9 (words_in line) ≡ name ∷ rest) (no_put : name ≡ codes "kput" → ⊥) (no_delete : name ≡ codes "kdel" → ⊥) (no_get : name ≡ codes "kget" → ⊥) where
  is_common_one : (e : ItemEvent) → Spells line e → IsCommon line e
  is_common_one (Common e) h = record { event = e; is = refl; spells = h }
  is_common_one (Put n i size fill token) h = let w = sym same ∙ (words_taken line _ h).spelled in absurd (no_put (cc))
  is_common_one (Delete n i token) h = let w = sym same ∙ (words_taken line _ h).spelled in absurd (no_delete (cc))
  is_common_one (Get n i) h = let w = sym same ∙ (words_taken line _ h).spelled in absurd (no_get (cc))

  reads_common : (r : Result ItemEvent LineFault) → Reads (IsCommon line) r → Reads (Spells line) r
  reads_common (Ok e) h = h.spells
  reads_common (Err Outside) none = λ e h. none e (is_common_one e h)
  reads_common (Err Memory) h = tt

-- what was read of a line by its first word
module _ (line name : List ℕ) (words : List (Bor (List ℕ))) (same : take 9 (words_in line) ≡ name ∷ texts words) where
  pub named_line : (literal : List ℕ) → name ≡ literal → (r : Result ItemEvent LineFault) → Reads (IsSpelledBy (literal ∷ texts words)) r → Reads (Spells line) r
  named_line literal is r h = reads_line line (literal ∷ texts words) r (same ∙ ap (λ n. n ∷ texts words) is) h

  pub common_line : (name ≡ codes "kput" → ⊥) → (name ≡ codes "kdel" → ⊥) → (name ≡ codes "kget" → ⊥) → (r : Result ItemEvent LineFault) → Reads (IsCommon line) r → Reads (Spells line) r
  common_line no_put no_delete no_get r h = reads_common line name (texts words) same no_put no_delete no_get r h

-- a test that failed
pub failed : (b : Bool) {P : Type 0} → b ≡ false → (P → b ≡ true) → P → ⊥
failed b fails f h = let holds = f h in cc
