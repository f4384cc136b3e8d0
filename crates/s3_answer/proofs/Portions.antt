-- Bytes that are answered piece by piece.
use Rattle.std.proofs.Common.{◌≡◌, ℕ, zero, suc, ◌-◌, Bool, Option, Some, None, option_map, List, [], ◌∷◌, ◌++◌, length, take, drop, refl, sym, ap, ◌∙◌, subst, append-nil, arith}
use Rattle.crdt_rows.specs.declared.version.Version.{Version}
use Rattle.crdt_rows.specs.declared.body.Meta.{Meta}
use Rattle.s3_model.specs.declared.ask.Range.{Range}
use Rattle.s3_model.specs.Ranges.{span_of}
use Rattle.s3_model.specs.Lines.{head_of}
use Rattle.s3_model.specs.Answer.{count_of, object_lines, part_lines, part_text, found_text}
use Rattle.s3_answer.specs.declared.portion.Portion.{Portion}
use Rattle.s3_answer.specs.Portions.{taken, portion_of}

-- ---- first bytes that are left out or taken, of bytes that come one after the other

drop_more : (k : ℕ) (xs ys : List ℕ) → drop k (xs ++ ys) ≡ drop k xs ++ drop (k - length xs) ys
drop_more zero xs ys = let none : 0 - length xs ≡ 0 = omega arith in ap (λ m. xs ++ drop m ys) (sym none)
drop_more (suc k) [] ys = let same : suc k ≡ suc k - 0 = omega arith in ap (λ m. drop m ys) same
drop_more (suc k) (x ∷ xs) ys = let less : k - length xs ≡ suc k - suc (length xs) = omega arith in drop_more k xs ys ∙ ap (λ m. drop k xs ++ drop m ys) less

take_more : (k : ℕ) (xs ys : List ℕ) → take k (xs ++ ys) ≡ take k xs ++ take (k - length xs) ys
take_more zero xs ys = let none : 0 - length xs ≡ 0 = omega arith in ap (λ m. take m ys) (sym none)
take_more (suc k) [] ys = let same : suc k ≡ suc k - 0 = omega arith in ap (λ m. take m ys) same
take_more (suc k) (x ∷ xs) ys = let less : k - length xs ≡ suc k - suc (length xs) = omega arith in ap (λ zs. x ∷ zs) (take_more k xs ys ∙ ap (λ m. take k xs ++ take m ys) less)

none_taken : (n k : ℕ) → take n (drop {A = ℕ} k []) ≡ []
none_taken zero zero = refl
none_taken zero (suc k) = refl
none_taken (suc n) zero = refl
none_taken (suc n) (suc k) = refl

pub later_all : (skip skip' : ℕ) (bytes more rest : List ℕ) → rest ≡ drop skip bytes → skip' ≡ skip - length bytes → drop skip (bytes ++ more) ≡ rest ++ drop skip' more
later_all skip skip' bytes more rest is fewer =
    drop_more skip bytes more ∙ ap (λ (front : List ℕ). front ++ drop (skip - length bytes) more) (sym is) ∙ ap (λ k. rest ++ drop k more) (sym fewer)

pub later_some : (skip skip' count count' : ℕ) (bytes more rest : List ℕ) → rest ≡ drop skip bytes → skip' ≡ skip - length bytes → count' ≡ count - length rest → take count (drop skip (bytes ++ more)) ≡ take count rest ++ take count' (drop skip' more)
later_some skip skip' count count' bytes more rest is fewer less =
    ap (take count) (later_all skip skip' bytes more rest is fewer) ∙ take_more count rest (drop skip' more) ∙ ap (λ k. take count rest ++ take k (drop skip' more)) (sym less)

-- ---- an answer is its head, and then the bytes that are answered

module _ (version : Version) (meta : Meta) (bytes : List ℕ) (now : ℕ) (close : Bool) where
  abbrev IsHeadFirst : (List ℕ → List ℕ) → Option Portion → Type 0
  IsHeadFirst text None = text bytes ≡ []
  IsHeadFirst text (Some p) = text bytes ≡ text [] ++ taken p bytes

  part_first : (o : Option (ℕ × ℕ)) → IsHeadFirst (λ body. part_text o version meta body now close) (option_map (λ (span : ℕ × ℕ). record { skip = span.0; count = Some (count_of span) }) o)
  part_first None = refl
  part_first (Some span) =
      let head = head_of 206 now (part_lines span version meta) close in
      let part = take (count_of span) (drop span.0 bytes) in
      ap (λ (t : List ℕ). t ++ part) (sym (ap (λ (t : List ℕ). head ++ t) (none_taken (count_of span) span.0) ∙ append-nil head))

  found_first : (range : Option Range) → IsHeadFirst (λ body. found_text range version meta body now close) (portion_of range meta.size)
  found_first None = let head = head_of 200 now (object_lines meta.size version meta) close in ap (λ (t : List ℕ). t ++ bytes) (sym (append-nil head))
  found_first (Some range) = part_first (span_of range meta.size)

  pub head_then : (range : Option Range) (p : Portion) → portion_of range meta.size ≡ Some p → found_text range version meta bytes now close ≡ found_text range version meta [] now close ++ taken p bytes
  head_then range p e = let P : Option Portion → Type 0 = IsHeadFirst (λ body. found_text range version meta body now close) in subst P e (found_first range)

  pub no_answer : (range : Option Range) → portion_of range meta.size ≡ None → found_text range version meta bytes now close ≡ []
  no_answer range e = let P : Option Portion → Type 0 = IsHeadFirst (λ body. found_text range version meta body now close) in subst P e (found_first range)
