-- The last byte of what ends in an empty line.
use Rattle.std.proofs.Common.{◌≡◌, ℕ, zero, suc, ◌-◌, ◌<◌, Bool, true, false, ◌||◌, Some, List, [], ◌∷◌, length, drop, nat_eq, slice_get, refl, ap, sym, ◌∙◌, arith}
use Rattle.std.specs.List.{ends_with}
use Rattle.std.proofs.lemmas.Slice.Eq.{bytes_eq-Decides}
use Rattle.http_model.specs.Cut.{ends_in_empty_line}

-- the last of a list is that of its rest
last_dropped : (n : ℕ) (front : List ℕ) (b : ℕ) (rest : List ℕ) → drop n front ≡ b ∷ rest → slice_get front (length front - 1) ≡ slice_get (b ∷ rest) (length (b ∷ rest) - 1)
last_dropped zero front b rest e = ap (λ x. slice_get x (length x - 1)) e
last_dropped (suc n) [] b rest e = cc
last_dropped (suc n) (x ∷ []) b rest e = let no : drop n [] ≡ b ∷ rest = e in absurd (none n no)
  where
    none : (n : ℕ) → drop n [] ≡ b ∷ rest → ⊥
    none zero e = cc
    none (suc n) e = cc
last_dropped (suc n) (x ∷ y ∷ ys) b rest e =
    let more : length (x ∷ y ∷ ys) - 1 ≡ suc (length ys) = omega arith in
    let less : length (y ∷ ys) - 1 ≡ length ys = omega arith in
    ap (slice_get (x ∷ y ∷ ys)) more ∙ (ap (slice_get (y ∷ ys)) (sym less) ∙ last_dropped n (y ∷ ys) b rest e)

-- what ends with these bytes ends with the last of them
last_ends : (front : List ℕ) (b : ℕ) (rest : List ℕ) → ends_with nat_eq front (b ∷ rest) ≡ true → slice_get front (length front - 1) ≡ slice_get (b ∷ rest) (length (b ∷ rest) - 1)
last_ends front b rest e = last_dropped (length front - length (b ∷ rest)) front b rest (sym ((bytes_eq-Decides (b ∷ rest) (drop (length front - length (b ∷ rest)) front)).0 e))

-- what doesn't end with a line feed doesn't end in an empty line
pub no_line_end : (front : List ℕ) → (slice_get front (length front - 1) ≡ Some 10 → ⊥) → ends_in_empty_line front ≡ false
no_line_end front other = by (ends_with nat_eq front (10 ∷ 10 ∷ [])) (ends_with nat_eq front (10 ∷ 13 ∷ 10 ∷ [])) refl refl
  where
    by : (a b : Bool) → ends_with nat_eq front (10 ∷ 10 ∷ []) ≡ a → ends_with nat_eq front (10 ∷ 13 ∷ 10 ∷ []) ≡ b → ends_in_empty_line front ≡ false
    by true b e f = absurd (other (last_ends front 10 (10 ∷ []) e))
    by false true e f = absurd (other (last_ends front 10 (13 ∷ 10 ∷ []) f))
    by false false e f = (λ i. e i || f i)
