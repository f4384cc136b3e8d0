-- A version's word is cut at its slash.
use Rattle.std.proofs.Common.{◌≡◌, ℕ, suc, ◌+◌, ◌<◌, true, ◌==◌, Some, None, List, ◌∷◌, ◌++◌, length, take, drop, get_or, position, Err, refl, sym, ap, ◌∙◌, arith, drop-cons}
use Rattle.std.specs.Prelude.{decimal, nat_lt}
use Rattle.std.specs.List.{position_or_len}
use Rattle.std.proofs.lemmas.List.{take-append-drop, get_or_append_left, length-append}
use Rattle.std.proofs.lemmas.List.Quantifiers.{position-Some}
use Rattle.std.proofs.lemmas.List.Sums.{position_or_len_is}
use Rattle.std.proofs.Math.Seq.{take-append_seam, drop-append-add, get_or-append_seam}
use Rattle.std.proofs.lemmas.Bool.{eqb-true, lt-ltb}
use Rattle.schedule_text.specs.declared.fault.LineFault.{LineFault}
use Rattle.schedule_text.specs.Reads.{Reads}
use Rattle.schedule_text.proofs.Inverse.{unread}
use Rattle.audit_model.specs.Lines.{version_word, IsNumber}
use Rattle.audit_model.proofs.Read.{numeral_no_slash}
use Rattle.transcript_text.specs.Words.{IsVersion}

-- the slash of a version stands behind its timestamp
place_is : (word : List ℕ) (v : ℕ × ℕ) → IsVersion word v → position (λ b. b == 47) word ≡ Some (length (decimal v.0))
place_is word v is =
    let whole : word ≡ decimal v.0 ++ 47 ∷ decimal v.1 = is.0 in
    let n = length (decimal v.0) in
    let l = length-append (decimal v.0) (47 ∷ decimal v.1) in
    let long : length word ≡ length (decimal v.0 ++ 47 ∷ decimal v.1) = ap length whole in
    let inside : n < length word = omega arith in
    let at : position_or_len (λ b. b == 47) word ≡ n = position_or_len_is (λ b. b == 47) word n 0 (omega (arith, inside))
    (λ k less. ap (λ w. get_or w k 0 == 47) whole ∙ (ap (λ b. b == 47) (get_or_append_left (decimal v.0) (47 ∷ decimal v.1) 0 k less) ∙ numeral_no_slash v.0 is.1 k 0 less))
    (λ less. ap (λ w. get_or w n 0 == 47) whole ∙ ap (λ b. b == 47) (get_or-append_seam (decimal v.0) 47 (decimal v.1) 0)) in
    let yes : nat_lt n (length word) ≡ true = lt-ltb n (length word) inside in
    rw (at, yes) refl

-- so it is cut into its two numbers
pub version_cut : (word : List ℕ) (i : ℕ) (v : ℕ × ℕ) → position (λ b. b == 47) word ≡ Some i → IsVersion word v → (take i word ≡ decimal v.0) × (drop (suc i) word ≡ decimal v.1)
version_cut word i v found is =
    let whole : word ≡ decimal v.0 ++ 47 ∷ decimal v.1 = is.0 in
    let same : Some i ≡ Some (length (decimal v.0)) = sym found ∙ place_is word v is in
    let place : i ≡ length (decimal v.0) = cc in
    let next : suc i ≡ length (decimal v.0) + 1 = omega arith in (
      (λ k. take (place k) (whole k)) ∙ take-append_seam (decimal v.0) (47 ∷ decimal v.1),
      (λ k. drop (next k) (whole k)) ∙ drop-append-add (decimal v.0) (47 ∷ decimal v.1) 1,
    )

-- without a slash there is none
pub no_version : (word : List ℕ) (v : ℕ × ℕ) → position (λ b. b == 47) word ≡ None → IsVersion word v → ⊥
no_version word v none is = let no : None ≡ Some (length (decimal v.0)) = sym none ∙ place_is word v is in cc

-- a word with a slash is its two parts
pub version_whole : (word : List ℕ) (i a b : ℕ) → position (λ b. b == 47) word ≡ Some i → take i word ≡ decimal a → drop (suc i) word ≡ decimal b → word ≡ version_word (a, b)
version_whole word i a b found first second =
    let at = position-Some (λ b. b == 47) word i 0 found in
    let byte : get_or word i 0 ≡ 47 = eqb-true (get_or word i 0) 47 at.1 in
    sym (take-append-drop i word) ∙ (λ k. first k ++ (drop-cons word i 0 at.0 ∙ (λ j. byte j ∷ second j)) k)

-- ---- what can't be read

abbrev IsWhole : List ℕ → ℕ → Type 0
IsWhole word n = (word ≡ decimal n) × IsNumber n

pub ts_unread : (word first : List ℕ) (i : ℕ) → Some i ≡ position (λ b. b == 47) word → first ≡ take i word → (f : LineFault) → Reads (IsWhole first) (Err f) → Reads (IsVersion word) (Err f)
ts_unread word first i found is f none = unread (IsVersion word) (IsWhole first) f (λ v h. (v.0, (is ∙ (version_cut word i v (sym found) h).0, h.1))) none

-- behind place i
after : (word : List ℕ) (i : ℕ) → drop (i + 1) word ≡ drop (suc i) word
after word i = let next : i + 1 ≡ suc i = omega arith in ap (λ n. drop n word) next

pub id_unread : (word second : List ℕ) (i : ℕ) → Some i ≡ position (λ b. b == 47) word → second ≡ drop (i + 1) word → (f : LineFault) → Reads (IsWhole second) (Err f) → Reads (IsVersion word) (Err f)
id_unread word second i found is f none =
    unread (IsVersion word) (IsWhole second) f (λ v h. (v.1, (is ∙ (after word i ∙ (version_cut word i v (sym found) h).1), h.2))) none

pub version_read : (word first second : List ℕ) (i a b : ℕ) → Some i ≡ position (λ b. b == 47) word → first ≡ take i word → second ≡ drop (i + 1) word → IsWhole first a → IsWhole second b → IsVersion word (a, b)
version_read word first second i a b found f s h k = (version_whole word i a b (sym found) (sym f ∙ h.0) (sym (s ∙ after word i) ∙ k.0), h.1, k.1)
