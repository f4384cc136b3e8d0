-- The first line of a text.
use Rattle.std.proofs.Common.{◌≡◌, ℕ, suc, ◌+◌, ◌<◌, true, false, cond, ◌==◌, Option, Some, None, List, [], ◌∷◌, length, take, drop, refl, sym, ◌∙◌, ap, subst, arith, position}
use Rattle.std.specs.List.{position_from}
use Rattle.std.proofs.lemmas.Iterator.Adapters.{position_from-zero}
use Rattle.text_model.specs.Grammar.{lines_of, onto_first}

-- the lines of a text whose first line feed is at i, or nowhere
abbrev IsCut : List ℕ → Option ℕ → Type 0
IsCut xs None = 0 < length xs → lines_of xs ≡ xs ∷ []
IsCut xs (Some i) = lines_of xs ≡ take i xs ∷ lines_of (drop (suc i) xs)

abbrev IsCutFrom : List ℕ → ℕ → Option ℕ → Type 0
IsCutFrom xs n None = 0 < length xs → lines_of xs ≡ xs ∷ []
IsCutFrom xs n (Some i) = (j : ℕ) × (i ≡ n + j) × (lines_of xs ≡ take j xs ∷ lines_of (drop (suc j) xs))

onto_all : (b : ℕ) (xs : List ℕ) → (0 < length xs → lines_of xs ≡ xs ∷ []) → onto_first b (lines_of xs) ≡ (b ∷ xs) ∷ []
onto_all b [] h = refl
onto_all b (x ∷ xs) h = ap (onto_first b) (h (omega arith))

one_more : (b : ℕ) (xs : List ℕ) (n : ℕ) → (b == 10) ≡ false → (o : Option ℕ) → IsCutFrom xs (n + 1) o → IsCutFrom (b ∷ xs) n o
one_more b xs n differs None h = λ _. rw differs (onto_all b xs h)
one_more b xs n differs (Some i) h = (suc h.0, omega arith, rw differs (ap (onto_first b) h.2))

cut_from : (xs : List ℕ) (n : ℕ) → IsCutFrom xs n (position_from (λ (b : ℕ). b == 10) n xs)
cut_from [] n = λ h. absurd (omega arith)
cut_from (b ∷ xs) n =
    elim (b == 10) as (λ t. (b == 10) ≡ t → IsCutFrom (b ∷ xs) n (cond t (Some n) (position_from (λ (b : ℕ). b == 10) (n + 1) xs))) [
      | true ↦ λ e. (0, omega arith, rw e refl)
      | false ↦ λ e. one_more b xs n e (position_from (λ (b : ℕ). b == 10) (n + 1) xs) (cut_from xs (n + 1))
    ] refl

at_zero : (xs : List ℕ) (o : Option ℕ) → IsCutFrom xs 0 o → IsCut xs o
at_zero xs None h = h
at_zero xs (Some i) h = let e : i ≡ h.0 = omega arith in rw e h.2

pub cut_is : (xs : List ℕ) (o : Option ℕ) → o ≡ position (λ (b : ℕ). b == 10) xs → IsCut xs o
cut_is xs o e = at_zero xs o (subst (IsCutFrom xs 0) (sym (e ∙ position_from-zero (λ (b : ℕ). b == 10) xs)) (cut_from xs 0))

pub cut_some : (xs : List ℕ) (i : ℕ) → Some i ≡ position (λ (b : ℕ). b == 10) xs → lines_of xs ≡ take i xs ∷ lines_of (drop (suc i) xs)
cut_some xs i e = cut_is xs (Some i) e

pub cut_none : (xs : List ℕ) → None ≡ position (λ (b : ℕ). b == 10) xs → 0 < length xs → lines_of xs ≡ xs ∷ []
cut_none xs e h = cut_is xs None e h
