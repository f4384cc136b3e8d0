use Rattle.std.proofs.Common.{◌≡◌, ℕ, [], unwrap_or, sym, ap, ◌∙◌}
use Rattle.http.specs.StatusCode.{reason_phrase}
use Rattle.s3_answer.proofs.Phrases.{behind, phrase_of}
use Rattle.s3_answer.proofs.lines.phrase.Goals as goal

pub returns-in-Ok : goal.returns-in-Ok
returns-in-Ok c =
    let reason : c.unwrap_or.result.now ≡ unwrap_or (reason_phrase c.in-Ok.status) [] = rw (c.unwrap_or.ensures, ← c.canonical_reason.ensures.value) (behind c.canonical_reason.result _) in
    reason ∙ ap (λ (n : ℕ). unwrap_or (reason_phrase n) []) c.in-Ok.ensures.1 ∙ sym (phrase_of c.args.code c.in-Ok.ensures.0.0 c.in-Ok.ensures.0.1)
