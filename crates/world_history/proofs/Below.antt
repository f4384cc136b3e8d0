-- Tests of all numbers below one, as a loop makes them.
use Rattle.std.proofs.Common.{◌≡◌, ℕ, ◌-◌, ◌<◌, ◌≤◌, Bool, true, false, inl, inr, refl, sym, subst, ◌∙◌, arith}
use Rattle.std.proofs.lemmas.Bool.{cases_lt}
use Rattle.std.specs.Bool.{Decides}
use Rattle.std.proofs.lemmas.Bool.Decides.{Decides-below_or, Decides-below_and}
use Rattle.world_history.specs.Checks.{any_below, all_below}
use Rattle.world_history.proofs.Parts.{fails}

-- a test that decides each number decides whether some number below n, or each, is so
module _ (p : ℕ → Bool) (P : ℕ → Type 0) (each : (k : ℕ) → Decides (p k) (P k)) (n : ℕ) where
  pub any_below-Decides : Decides (any_below p n) ((k : ℕ) × (k < n) × P k)
  any_below-Decides = Decides-below_or p P (any_below p) each refl (λ m. refl) n

  pub all_below-Decides : Decides (all_below p n) ((k : ℕ) → k < n → P k)
  all_below-Decides = Decides-below_and p P (all_below p) each refl (λ m. refl) n

-- one that passes
pub any_below_at : (p : ℕ → Bool) (k n : ℕ) → k < n → p k ≡ true → any_below p n ≡ true
any_below_at p k n lt here = (any_below-Decides p (λ m. p m ≡ true) (λ m. (λ e. e, λ e. e)) n).1 (k, lt, here)

-- one that fails
pub all_below_not : (p : ℕ → Bool) (k n : ℕ) → k < n → p k ≡ false → all_below p n ≡ false
all_below_not p k n lt here = by_case (all_below p n) refl
  where
    by_case : (b : Bool) → all_below p n ≡ b → b ≡ false
    by_case false e = refl
    by_case true e = let there : p k ≡ true = (all_below-Decides p (λ m. p m ≡ true) (λ m. (λ e. e, λ e. e)) n).0 e k lt in cc

-- none that passes
pub any_below_none : (p : ℕ → Bool) (n : ℕ) → ((k : ℕ) → k < n → p k ≡ false) → any_below p n ≡ false
any_below_none p n none = fails _ (any_below-Decides p (λ m. p m ≡ true) (λ m. (λ e. e, λ e. e)) n) (λ (k, lt, e). let no : false ≡ true = sym (none k lt) ∙ e in cc)

-- no number from `from` on below n passes, as a loop that counts down knows
abbrev pub NoneFrom : (ℕ → Bool) → ℕ → ℕ → Type 0
NoneFrom p from n = (k : ℕ) → from ≤ k → k < n → p k ≡ false

pub none_from_end : (p : ℕ → Bool) (n : ℕ) → NoneFrom p n n
none_from_end p n k above below = absurd (omega arith)

pub none_from_more : (p : ℕ → Bool) (from n : ℕ) → 0 < from → NoneFrom p from n → p (from - 1) ≡ false → NoneFrom p (from - 1) n
none_from_more p from n some none here k above below =
    elim (cases_lt k from) as (λ t. p k ≡ false) [
      | inl lt ↦ let same : from - 1 ≡ k = omega arith in subst (λ m. p m ≡ false) same here
      | inr le ↦ none k le below
    ]

pub none_from_start : (p : ℕ → Bool) (from n : ℕ) → from ≤ 0 → NoneFrom p from n → any_below p n ≡ false
none_from_start p from n start none = any_below_none p n (λ k lt. let above : from ≤ k = omega arith in none k above lt)
