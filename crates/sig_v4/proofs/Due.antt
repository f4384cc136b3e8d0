-- The signature that a request must have, from what was computed on the way.
use Rattle.std.proofs.Common.{◌≡◌, ℕ, List, ap, ◌∙◌}
use Rattle.http_model.specs.declared.head.Head.{Head}
use Rattle.sig_request.specs.Canonical.{canonical_request}
use Rattle.sig_v4.specs.declared.claim.Claim.{Claim}
use Rattle.sig_v4.specs.Signing.{text_to_sign, signature}
use Rattle.sig_v4.specs.Claims.{day_of}
use Rattle.sig_v4.specs.Checks.{due_signature}

pub due_is : (head : Head) (secret region : List ℕ) (claim : Claim) (time day request text due : List ℕ) → time ≡ claim.time → day ≡ day_of claim.time →
    request ≡ canonical_request head claim.names claim.payload → text ≡ text_to_sign time day region request → due ≡ signature secret day region text →
    due ≡ due_signature head secret region claim
unfolding due_signature
due_is head secret region claim time day request text due t d r x s =
    let of : List ℕ → List ℕ → List ℕ → List ℕ = λ e u q. signature secret e region (text_to_sign u e region q) in
    s ∙ (ap (signature secret day region) x ∙ (ap (λ e. of e time request) d ∙ (ap (λ u. of (day_of claim.time) u request) t ∙ ap (of (day_of claim.time) claim.time) r)))
