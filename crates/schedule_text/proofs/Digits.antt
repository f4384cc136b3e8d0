-- A word that spells a number, read by std and written back.
use Rattle.std.proofs.Common.{◌≡◌, ℕ, ◌^◌, ◌<◌, ◌⊎◌, false, List, Some, Result, Ok, Err, Bor, sym, ◌∙◌, ap, subst, arith, nat_eq, decimal, MatchResult}
use Rattle.std.specs.Result.{is_ok, result_ok}
use Rattle.std.specs.Str.{IsUtf8}
use Rattle.std.specs.Str.Parse.{ParsesUnsigned}
use Rattle.std.specs.Cmp.Lexicographic.{pointwise}
use Rattle.std.proofs.lemmas.Str.{IsUtf8-from_ascii}
use Rattle.std.proofs.lemmas.Fmt.{IsAscii-decimal, parse-decimal, decimal_injective}
use Rattle.std.proofs.lemmas.Slice.Eq.{bytes_eq-Decides}
use Rattle.text_model.specs.Grammar.{IsFrom}

-- what isn't text spells no number
pub no_text : {T E : Type 0} (word : List ℕ) (P : T → Type 0) (Q : E → Type 0) (r : Result T E) → MatchResult r P (λ e. ¬ (IsUtf8 word) × Q e) → false ≡ is_ok r → (x : ℕ) → (word ≡ decimal x) × (x < 2 ^ 64) → ⊥
no_text word P Q (Ok s) h none x p = cc
no_text word P Q (Err e) h none x p =
    h.0 (let A : List ℕ → Type 0 = IsUtf8 in subst A (sym p.0) (IsUtf8-from_ascii (decimal x) (IsAscii-decimal x p.1)))

-- the text of the word is the word
pub text_is : {E : Type 0} (word : List ℕ) (Q : E → Type 0) (r : Result (Bor (List ℕ)) E) (s : Bor (List ℕ)) → MatchResult r (λ t. (t.now ≡ word) × IsUtf8 word) Q → Some s ≡ result_ok r → s.now ≡ word
text_is word Q (Ok t) s h e = let same : s ≡ t = cc in ap (λ (b : Bor (List ℕ)). b.now) same ∙ h.0
text_is word Q (Err e) s h k = cc

parsed : {E : Type 0} (word bs : List ℕ) (r : Result ℕ E) → ParsesUnsigned 64 10 bs r → bs ≡ word → (x : ℕ) → (word ≡ decimal x) × (x < 2 ^ 64) → r ≡ Ok x
parsed word bs r h same x p = parse-decimal 64 x bs r p.1 p.1 (same ∙ p.0) h

-- what std doesn't read spells no number
pub no_number : {E : Type 0} (word bs : List ℕ) (r : Result ℕ E) → ParsesUnsigned 64 10 bs r → bs ≡ word → false ≡ is_ok r → (x : ℕ) → (word ≡ decimal x) × (x < 2 ^ 64) → ⊥
no_number word bs r h same none x p = let e = none ∙ ap is_ok (parsed word bs r h same x p) in cc

-- a number that is written otherwise than the word isn't spelled by it, nor is any other
pub not_spelled : {E : Type 0} (word bs : List ℕ) (r : Result ℕ E) (n : ℕ) (written : List ℕ) → ParsesUnsigned 64 10 bs r → bs ≡ word → Some n ≡ result_ok r → written ≡ decimal n → false ≡ pointwise nat_eq written word → (x : ℕ) → (word ≡ decimal x) × (x < 2 ^ 64) → ⊥
not_spelled word bs r n written h same read is differs x p =
    let e : Some n ≡ Some x = read ∙ ap result_ok (parsed word bs r h same x p) in
    let k : n ≡ x = cc in
    let w : written ≡ word = is ∙ ap decimal k ∙ sym p.0 in
    let t = (bytes_eq-Decides written word).1 w in
    cc

-- a word spells one number
pub no_other : (word : List ℕ) (low high n : ℕ) → (word ≡ decimal n) × (n < 2 ^ 64) → high < 2 ^ 64 → (n < low) ⊎ (high < n) → (x : ℕ) → (word ≡ decimal x) × IsFrom low high x → ⊥
no_other word low high n h fits out x p =
    let same : n ≡ x = decimal_injective n x h.1 (omega arith) (sym h.0 ∙ p.0) in omega arith
