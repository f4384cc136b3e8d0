-- The phrase of a status code.
use Rattle.std.proofs.Common.{◌≡◌, ℕ, ◌<◌, ◌≤◌, ◌&&◌, nat_lt, nat_le, List, [], Option, Some, None, Bor, true, option_map, unwrap_or, refl, ap, ◌∙◌, arith}
use Rattle.std.proofs.lemmas.Bool.{lt-ltb, cond-true}
use Rattle.http.specs.StatusCode.{reason_phrase}
use Rattle.s3_model.specs.Lines.{phrase}

-- a text that may be there, or another
pub behind : (r : Option (Bor (List ℕ))) (d : Bor (List ℕ)) → (unwrap_or r d).now ≡ unwrap_or (option_map (λ s. s.now) r) d.now
behind None d = refl
behind (Some s) d = refl

pub phrase_of : (code : ℕ) → 100 ≤ code → code < 1000 → phrase code ≡ unwrap_or (reason_phrase code) []
unfolding phrase
phrase_of code low high =
    let above : 99 < code = omega arith in
    let first : nat_le 100 code ≡ true = lt-ltb 99 code above in
    cond-true (nat_le 100 code && nat_lt code 1000) (unwrap_or (reason_phrase code) []) [] (ap (λ b. b && nat_lt code 1000) first ∙ lt-ltb code 1000 high)
