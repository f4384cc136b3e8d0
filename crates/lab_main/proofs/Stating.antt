-- What Done says of an input that is told, and that the status that is stated for it comes.
use Rattle.std.proofs.Common.{◌≡◌, ◌<◌, ◌≤◌, ℕ, ◌⊎◌, inl, inr, Option, Some, None, IfSome, List, length, refl, sym, ◌∙◌, subst, arith}
use Rattle.lab_outside.specs.declared.exit.Status.{Status}
use Rattle.lab_outside.specs.declared.exit.Status.TheVariants.{Done, Memory as MemoryStatus, Limit}
use Rattle.lab_outside.specs.Bytes.{Wrote}
use Rattle.std.proofs.lemmas.Bool.{cases_lt}
use Rattle.lab_main.specs.Limits.{input_limit, input_line}
use Rattle.lab_main.specs.Input.{OrTooLong, too_long, within, OfInput}
use Rattle.lab_main.specs.Edges.{IsStated, Answers}

-- what Done says
module _ (Stated : List ℕ → Status → List ℕ → Type 0) (P : List ℕ → Type 0) (old new : Option (List ℕ)) (does : (bytes text : List ℕ) → Stated bytes Done text → Wrote old new text → P bytes) where
  of_text : (bytes text : List ℕ) → OrTooLong Stated bytes Done text → Wrote old new text → P bytes
  of_text bytes text (too_long long e w) wrote = let no : Done ≡ Limit = e in cc
  of_text bytes text (within short stated) wrote = does bytes text stated wrote

  of_told : (left : Option (List ℕ)) → Answers (OfInput Stated left) Done old new → IfSome left P
  of_told None h = tt
  of_told (Some bytes) h = of_text bytes h.text h.stated h.wrote

  pub of_done : (left : Option (List ℕ)) (result : Status) → (IsStated result → Answers (OfInput Stated left) result old new) → result ≡ Done → IfSome left P
  of_done left result answers e =
      let Q : Status → Type 0 = λ s. IsStated s → Answers (OfInput Stated left) s old new in
      of_told left (subst Q e answers tt)

-- where two statuses that are stated for bytes agree, the one that came agrees with each that is stated
module _ (Stated : List ℕ → Status → List ℕ → Type 0) (Agree : List ℕ → Status → Status → Type 0) (same : (bytes : List ℕ) (s t : Status) → s ≡ t → Agree bytes s t)
    (agree : (bytes : List ℕ) (s t : Status) (a b : List ℕ) → Stated bytes s a → Stated bytes t b → Agree bytes s t) where
  limits_agree : (bytes : List ℕ) (s t : Status) (a b : List ℕ) → OrTooLong Stated bytes s a → OrTooLong Stated bytes t b → Agree bytes s t
  limits_agree bytes s t a b (too_long long e w) (too_long more d v) = same bytes s t (e ∙ sym d)
  limits_agree bytes s t a b (too_long long e w) (within short h) = absurd (omega arith)
  limits_agree bytes s t a b (within short h) (too_long long e w) = absurd (omega arith)
  limits_agree bytes s t a b (within short h) (within also k) = agree bytes s t a b h k

  module _ (result : Status) (old new : Option (List ℕ)) where
    told_agree : (bytes : List ℕ) → Answers (OfInput Stated (Some bytes)) result old new ⊎ (result ≡ MemoryStatus) → (status : Status) (text : List ℕ) → OrTooLong Stated bytes status text → Agree bytes result status ⊎ (result ≡ MemoryStatus)
    told_agree bytes (inl h) status text stated = inl (limits_agree bytes result status h.text text h.stated stated)
    told_agree bytes (inr want) status text stated = inr want

    pub completes : (Reads Writes : Type 0) (left : Option (List ℕ)) → (Reads → Writes → Answers (OfInput Stated left) result old new ⊎ (result ≡ MemoryStatus)) →
        IfSome left (λ bytes. (status : Status) (text : List ℕ) → OrTooLong Stated bytes status text → Reads → Writes → Agree bytes result status ⊎ (result ≡ MemoryStatus))
    completes Reads Writes None answered = tt
    completes Reads Writes (Some bytes) answered = λ status text stated r w. told_agree bytes (answered r w) status text stated

-- where an answer is stated for all bytes, one is stated for each input
pub some_or_too_long : (Stated : List ℕ → Status → List ℕ → Type 0) → ((bytes : List ℕ) → (is : Status) × ((text : List ℕ) × Stated bytes is text)) → (input : List ℕ) → (is : Status) × ((text : List ℕ) × OrTooLong Stated input is text)
some_or_too_long Stated some input = elim (cases_lt input_limit (length input)) [
  | inl long ↦ (Limit, (input_line, too_long long refl refl))
  | inr short ↦ let h = some input in (h.0, (h.1.0, within short h.1.1))
]
