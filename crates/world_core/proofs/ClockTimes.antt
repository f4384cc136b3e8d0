-- The clocks of the nodes at a later time, and with another skew.
use Rattle.std.proofs.Common.{◌≡◌, ◌<◌, ◌≤◌, ◌+◌, ◌^◌, ◌==◌, ℕ, true, cond, length, get_or, replicate, inl, inr, refl, ap, ◌∙◌, arith}
use Rattle.std.proofs.lemmas.List.{get_or-replicate, get_or_past, length-replicate}
use Rattle.std.proofs.lemmas.Bool.{eq-eqb, cases_lt}
use Rattle.world_core.specs.declared.clocks.Clocks.{Clocks}
use Rattle.world_core.specs.Parts.{AreClocks, NoneLate}

all_same : (count d n : ℕ) → get_or (replicate count d) n d ≡ d
all_same count d n = elim (cases_lt n count) [
  | inl within ↦ get_or-replicate count n d d within
  | inr past ↦ get_or_past (replicate count d) n d (omega (arith, length-replicate count d))
]

pub fresh : AreClocks (record { time = 0; skews = replicate 256 0 }) 0 (λ n. 0)
fresh = record { time_is = refl; skews = all_same 256 0; none_late = (omega arith, λ n. omega arith) }

pub later : (c : Clocks) (after ms : ℕ) → length c.skews ≡ 256 → after ≡ c.time + ms → after < 2 ^ 64 → ((k : ℕ) → k < 256 → after + get_or c.skews k 0 < 2 ^ 64) →
    (time : ℕ) (skew_of : ℕ → ℕ) → AreClocks c time skew_of → AreClocks (record { time = after; skews = c.skews }) (time + ms) skew_of
later c after ms whole is small none time skew_of are =
    let at : after ≡ time + ms = is ∙ ap (λ t. t + ms) are.time_is in
    let none_at = λ (n : ℕ). elim (cases_lt n 256) as (λ _. time + ms + skew_of n < 2 ^ 64) [
      | inl within ↦ omega (arith, at, are.skews n, none n within)
      | inr past ↦ omega (arith, at, are.skews n, get_or_past c.skews n 0 (omega arith))
    ] in
    record { time_is = at; skews = are.skews; none_late = (omega arith, none_at) }

pub too_late : (c : Clocks) (node ms : ℕ) → 2 ^ 64 ≤ c.time + ms → (time : ℕ) (skew_of : ℕ → ℕ) → AreClocks c time skew_of → NoneLate time (λ n. cond (n == node) ms (skew_of n)) → ⊥
too_late c node ms late time skew_of are none =
    let same : (node == node) ≡ true = eq-eqb node node refl in
    let at = rw same at (none.1 node) in
    omega (arith, at, are.time_is)
