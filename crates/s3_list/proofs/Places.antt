-- The first place that passes a test, and the entries of a page.
use Rattle.std.proofs.Common.{◌≡◌, ℕ, suc, ◌+◌, ◌-◌, ◌<◌, Bool, false, if◌then◌else◌, Some, ap, ◌∙◌, arith}
use Rattle.http_model.specs.Cut.{least}

-- the next place passes, or a later one is the first
pub least_here : (test : ℕ → Bool) (n end : ℕ) → n < end → least test n (end - n) ≡ (if test n then Some n else least test (n + 1) (end - (n + 1)))
least_here test n end h =
    let more : end - n ≡ suc (end - (n + 1)) = omega arith in
    ap (least test n) more

-- it doesn't
pub least_later : (test : ℕ → Bool) (n end : ℕ) → n < end → test n ≡ false → least test n (end - n) ≡ least test (n + 1) (end - (n + 1))
least_later test n end h fails = least_here test n end h ∙ ap (λ b. if b then Some n else least test (n + 1) (end - (n + 1))) fails
