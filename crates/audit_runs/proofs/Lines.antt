-- The lines of a text whose words hold no line feed.
use Rattle.std.proofs.Common.{◌≡◌, ℕ, zero, suc, ◌+◌, ◌<◌, ◌/◌, ◌%◌, true, false, not, ◌==◌, nat_lt, if◌then◌else◌, List, [], ◌∷◌, ◌++◌, refl, sym, ap, ◌∙◌, append_assoc, append-nil, arith, ne_eqb}
use Rattle.std.specs.Prelude.{decimal, flat_map}
use Rattle.std.specs.List.{AllByRecursion, list_all}
use Rattle.std.specs.Fmt.{digits, digits_onto, digit_glyph}
use Rattle.std.proofs.lemmas.Bool.{and_parts, and_from}
use Rattle.std.proofs.lemmas.List.Folds.{list_all-append}
use Rattle.text_model.specs.Grammar.{lines_of, onto_first}
use Rattle.text_model.specs.Reading.{is_number}
use Rattle.audit_runs.specs.Whole.{is_unbroken, IsOtherLine, IsOtherLines}

-- a byte is nowhere in a text
abbrev pub Free : ℕ → List ℕ → Type 0
Free c t = list_all (λ b. not (b == c)) t ≡ true

pub free_both : (c : ℕ) (a b : List ℕ) → Free c a → Free c b → Free c (a ++ b)
free_both c a b h k = list_all-append (λ x. not (x == c)) a b ∙ and_from (list_all (λ x. not (x == c)) a) (list_all (λ x. not (x == c)) b) h k

-- no digit is below '0'
glyph_free : (c d : ℕ) → c < 48 → not (digit_glyph false d == c) ≡ true
glyph_free c d low =
    elim (nat_lt d 10) as (λ b. not ((if b then 48 + d else 87 + d) == c) ≡ true) [
      | true ↦ ap not (ne_eqb (48 + d) c (λ e. omega arith))
      | false ↦ ap not (ne_eqb (87 + d) c (λ e. omega arith))
    ]

onto_free : (c : ℕ) → c < 48 → (k n : ℕ) (acc : List ℕ) → Free c acc → Free c (digits_onto k 10 false n acc)
onto_free c low zero n acc h = h
onto_free c low (suc k) n acc h =
    let more : Free c (digit_glyph false (n % 10) ∷ acc) = and_from (not (digit_glyph false (n % 10) == c)) (list_all (λ b. not (b == c)) acc) (glyph_free c (n % 10) low) h in
    elim (n / 10 == 0) as (λ b. Free c (if b then digit_glyph false (n % 10) ∷ acc else digits_onto k 10 false (n / 10) (digit_glyph false (n % 10) ∷ acc))) [
      | true ↦ more
      | false ↦ onto_free c low k (n / 10) (digit_glyph false (n % 10) ∷ acc) more
    ]

pub decimal_free : (c n : ℕ) → c < 48 → Free c (decimal n)
unfolding digits
decimal_free c n low = onto_free c low 64 n [] refl

-- a line up to its line feed
pub first_line : (w rest : List ℕ) → is_unbroken w ≡ true → lines_of (w ++ 10 ∷ rest) ≡ w ∷ lines_of rest
first_line [] rest h = refl
first_line (b ∷ bs) rest h =
    let parts = and_parts (not (b == 10)) (list_all (λ x. not (x == 10)) bs) h in
    elim (b == 10) as (λ t. not t ≡ true → (if t then [] ∷ lines_of (bs ++ 10 ∷ rest) else onto_first b (lines_of (bs ++ 10 ∷ rest))) ≡ (b ∷ bs) ∷ lines_of rest) [
      | true ↦ λ e. cc
      | false ↦ λ e. ap (onto_first b) (first_line bs rest parts.1)
    ] parts.0

-- such lines, and what follows them
pub other_lines : (lines : List (List ℕ)) (rest : List ℕ) → AllByRecursion IsOtherLine lines → lines_of (flat_map (λ line. line ++ 10 ∷ []) lines ++ rest) ≡ lines ++ lines_of rest
other_lines [] rest h = refl
other_lines (l ∷ ls) rest h =
    let later : List ℕ = flat_map (λ line. line ++ 10 ∷ []) ls in
    ap lines_of (append_assoc (l ++ 10 ∷ []) later rest ∙ append_assoc l (10 ∷ []) (later ++ rest))
    ∙ (first_line l (later ++ rest) h.0.unbroken ∙ ap (λ xs. l ∷ xs) (other_lines ls rest h.1))

flat_both : (a b : List (List ℕ)) → flat_map (λ line. line ++ 10 ∷ []) (a ++ b) ≡ flat_map (λ line. line ++ 10 ∷ []) a ++ flat_map (λ line. line ++ 10 ∷ []) b
flat_both [] b = refl
flat_both (l ∷ ls) b = ap (λ t. (l ++ 10 ∷ []) ++ t) (flat_both ls b) ∙ sym (append_assoc (l ++ 10 ∷ []) (flat_map (λ line. line ++ 10 ∷ []) ls) (flat_map (λ line. line ++ 10 ∷ []) b))

all_in_both : (a b : List (List ℕ)) → AllByRecursion IsOtherLine a → AllByRecursion IsOtherLine b → AllByRecursion IsOtherLine (a ++ b)
all_in_both [] b h k = k
all_in_both (l ∷ ls) b h k = (h.0, all_in_both ls b h.1 k)

pub no_lines : IsOtherLines []
no_lines = record { lines = []; are_other = tt; text_is = refl }

pub both_lines : (a b : List ℕ) → IsOtherLines a → IsOtherLines b → IsOtherLines (a ++ b)
both_lines a b h k = record {
  lines = h.lines ++ k.lines;
  are_other = all_in_both h.lines k.lines h.are_other k.are_other;
  text_is = (λ i. h.text_is i ++ k.text_is i) ∙ sym (flat_both h.lines k.lines);
}

pub one_line : (w : List ℕ) → is_unbroken w ≡ true → is_number w ≡ false → IsOtherLines (w ++ 10 ∷ [])
one_line w unbroken no_number = record { lines = w ∷ []; are_other = (record { unbroken = unbroken; no_number = no_number }, tt); text_is = sym (append-nil (w ++ 10 ∷ [])) }

pub each_lines : {A : Type 0} (f : A → List ℕ) (xs : List A) → AllByRecursion (λ x. IsOtherLines (f x)) xs → IsOtherLines (flat_map f xs)
each_lines f [] h = no_lines
each_lines f (x ∷ xs) h = both_lines (f x) (flat_map f xs) h.0 (each_lines f xs h.1)
