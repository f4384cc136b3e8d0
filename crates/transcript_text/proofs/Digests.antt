-- Bytes in lower-case hexadecimal are read back.
use Rattle.std.proofs.Common.{◌≡◌, ℕ, ◌*◌, false, Some, List, length, Result, Ok, Err, OnOk, ap, sym, ◌∙◌}
use Rattle.std.specs.Result.{is_ok, result_ok}
use Rattle.hex.specs.Hex.{decode_of, decode_sized, encode_lower, lower_digits}
use Rattle.hex.specs.declared.error.FromHexError.{FromHexError}
use Rattle.hex.proofs.HexLemmas.{decode_of-encode_lower, decode_sized-twice, length-encode_with}
use Rattle.transcript_text.specs.Words.{IsDigest}

-- what spells bytes is read as them
pub decoded : (n : ℕ) (word bytes : List ℕ) → IsDigest n word bytes → decode_sized word n ≡ Ok bytes
decoded n word bytes is =
    let l : length word ≡ 2 * n = ap length is.0 ∙ (length-encode_with lower_digits bytes ∙ ap (λ m. 2 * m) is.1) in
    decode_sized-twice word n l ∙ (ap decode_of is.0 ∙ decode_of-encode_lower bytes is.2)

-- what isn't read spells no bytes
pub not_decoded : (n : ℕ) (word : List ℕ) (r : Result (List ℕ) FromHexError) → r ≡ decode_sized word n → false ≡ is_ok r → (bytes : List ℕ) → IsDigest n word bytes → ⊥
not_decoded n word r is none bytes p = let e = none ∙ ap is_ok (is ∙ decoded n word bytes p) in cc

-- bytes that are written otherwise than the word aren't spelled by it, nor are any others
pub not_spelled : (n : ℕ) (word : List ℕ) (r : Result (List ℕ) FromHexError) (bytes written : List ℕ) → r ≡ decode_sized word n → Some bytes ≡ result_ok r → written ≡ encode_lower bytes → (written ≡ word → ⊥) →
    (other : List ℕ) → IsDigest n word other → ⊥
not_spelled n word r bytes written is read text differs other p =
    let e : Some bytes ≡ Some other = read ∙ ap result_ok (is ∙ decoded n word other p) in
    let same : bytes ≡ other = cc in
    differs (text ∙ (ap encode_lower same ∙ sym p.0))

-- what holds of an answer holds where there is one
pub when_ok : {T E : Type 0} {P : Type 0} (r : Result T E) (x : T) → OnOk r P → Some x ≡ result_ok r → P
when_ok (Ok y) x h e = h
when_ok (Err f) x h e = cc
