-- Numbers that are read from digits.
use Rattle.std.proofs.Common.{◌≡◌, ℕ, zero, suc, ◌^◌, ◌≤◌, ◌<◌, Bool, true, false, ◌&&◌, not, ◌==◌, List, [], ◌∷◌, length, Some, None, Result, Ok, Err, Bor, refl, ap, sym, ◌∙◌, arith, MatchResult, leb}
use Rattle.std.specs.Char.{is_ascii_digit}
use Rattle.std.specs.List.{list_all}
use Rattle.std.specs.Result.{is_ok, result_ok}
use Rattle.std.specs.Str.{IsUtf8, IsAscii, all_ascii_digits, is_utf8}
use Rattle.std.specs.Str.Parse.{ParsesUnsigned, digits_value}
use Rattle.std.proofs.lemmas.Bool.{leb-true, eqb-false, not-true, cond-true}
use Rattle.std.proofs.lemmas.Str.{IsUtf8-from_ascii, IsUtf8-from_is_utf8, is_utf8-from_IsUtf8}
use Rattle.std.proofs.lemmas.Str.Parse.{IsNumeralModel, numerals_by_value, tells_all_ascii_digits, digits_value_short, parse_gives}
use Rattle.s3_model.specs.Numbers.{is_number, number_in}

pub and_left : (a b : Bool) → (a && b) ≡ true → a ≡ true
and_left true b h = refl
and_left false b h = h

pub and_right : (a b : Bool) → (a && b) ≡ true → b ≡ true
and_right true b h = h
and_right false b h = cc

-- `all` of the digits is std's test
pub digits_all : (ds : List ℕ) → list_all (λ b. is_ascii_digit b) ds ≡ all_ascii_digits ds
digits_all [] = refl
digits_all (d ∷ ds) = ap (λ b. is_ascii_digit d && b) (digits_all ds)

own : IsNumeralModel (λ ds. all_ascii_digits ds ≡ true) (digits_value 10)
own = numerals_by_value _ tells_all_ascii_digits

digit_is_ascii : (c : ℕ) → is_ascii_digit c ≡ true → c < 128
digit_is_ascii c h = let high : c ≤ 57 = leb-true c 57 (and_right (leb 48 c) (leb c 57) h) in omega arith

digits_are_ascii : (ds : List ℕ) → all_ascii_digits ds ≡ true → IsAscii ds
digits_are_ascii [] h i = omega arith
digits_are_ascii (d ∷ ds) h zero = digit_is_ascii d (and_left (is_ascii_digit d) (all_ascii_digits ds) h)
digits_are_ascii (d ∷ ds) h (suc i) = digits_are_ascii ds (and_right (is_ascii_digit d) (all_ascii_digits ds) h) i

-- a number's text: not empty, short enough, digits
number_parts : (most : ℕ) (text : List ℕ) → is_number most text ≡ true → (0 < length text) × (length text ≤ most) × (all_ascii_digits text ≡ true)
number_parts most text h =
    let filled = and_left (not (length text == 0)) _ h in
    let rest = and_right (not (length text == 0)) _ h in
    let some : length text ≡ 0 → ⊥ = eqb-false (length text) 0 (not-true (length text == 0) filled) in
    let short : length text ≤ most = leb-true _ _ (and_left (leb (length text) most) _ rest) in
    (omega arith, short, sym (digits_all text) ∙ and_right (leb (length text) most) _ rest)

-- a number's text is text
pub number_is_text : (most : ℕ) (text : List ℕ) → is_number most text ≡ true → IsUtf8 text
number_is_text most text h = IsUtf8-from_ascii text (digits_are_ascii text (number_parts most text h).2)

-- std doesn't refuse what is text
pub refused_no_text : {T E : Type 0} (text : List ℕ) (P : T → Type 0) (Q : E → Type 0) (r : Result T E) → MatchResult r P (λ e. ¬ (IsUtf8 text) × Q e) → false ≡ is_ok r → IsUtf8 text → ⊥
refused_no_text text P Q (Ok s) h none t = cc
refused_no_text text P Q (Err e) h none t = h.0 t

-- what std reads has the same bytes
pub text_is : {E : Type 0} (text : List ℕ) (Q : E → Type 0) (r : Result (Bor (List ℕ)) E) (s : Bor (List ℕ)) → MatchResult r (λ t. (t.now ≡ text) × IsUtf8 text) Q → Some s ≡ result_ok r → s.now ≡ text
text_is text Q (Ok t) s h e = let same : s ≡ t = cc in ap (λ (b : Bor (List ℕ)). b.now) same ∙ h.0
text_is text Q (Err e) s h k = cc

-- std reads the number that the digits write
pub number_is : {E : Type 0} (most : ℕ) (text bs : List ℕ) (r : Result ℕ E) → most ≤ 18 → is_number most text ≡ true → bs ≡ text → ParsesUnsigned 64 10 bs r → result_ok r ≡ number_in most text
number_is most text bs r limit is same h =
    let parts = number_parts most text is in
    let digits : all_ascii_digits bs ≡ true = ap all_ascii_digits same ∙ parts.2 in
    let len : length bs ≡ length text = ap (λ (x : List ℕ). length x) same in
    let short : length bs ≤ 18 = omega (arith, parts.1) in
    let small : digits_value 10 bs < 10 ^ 18 = digits_value_short own bs 18 digits short in
    let fits : digits_value 10 bs < 2 ^ 64 = omega arith in
    ap result_ok (parse_gives own 64 bs r h digits (omega (arith, parts.0)) fits)
    ∙ ap (λ (x : List ℕ). Some (digits_value 10 x)) same
    ∙ sym (cond-true (is_number most text) (Some (digits_value 10 text)) None is)

-- whether std reads bytes as text
pub text_test : {T E : Type 0} (bytes : List ℕ) (P : T → Type 0) (Q : E → Type 0) (r : Result T E) → MatchResult r (λ s. P s × IsUtf8 bytes) (λ e. ¬ (IsUtf8 bytes) × Q e) → is_ok r ≡ is_utf8 bytes
text_test bytes P Q (Ok s) h = sym (is_utf8-from_IsUtf8 bytes h.1)
text_test bytes P Q (Err e) h = elim (is_utf8 bytes) as (λ b. is_utf8 bytes ≡ b → false ≡ b) [ true ↦ λ t. absurd (h.0 (IsUtf8-from_is_utf8 bytes t)) | false ↦ λ t. refl ] refl
