-- Why a call stops: what the fault of a call that it made says of its own.
use Rattle.std.proofs.Common.{◌≡◌, ◌⊎◌, ◌+◌, ◌^◌, ℕ, Result, Ok, Err, IfErr, OnOk, inl, inr, ◌∙◌}
use Rattle.std.specs.Result.{IsErrAnd}
use Rattle.crdt_core.specs.declared.memory.Memory.{Memory}
use Rattle.crdt_core.specs.declared.memory.Memory.TheVariants.{Want, Full}
use Rattle.numbered_list.specs.Numbers.{RefusesNumber}

by_refusal : {P : Type 0} (y e : Memory) (pushed : ℕ) → y ≡ e → RefusesNumber pushed e → (pushed + 1 ≡ 2 ^ 64 → P) → (y ≡ Want) ⊎ ((y ≡ Full) × P)
by_refusal y Want pushed h refused f = inl h
by_refusal y Full pushed h refused f = inr (h, f refused)

pub ok_to : {A E P Q : Type 0} → (r : Result A E) → OnOk r P → (P → Q) → OnOk r Q
ok_to (Ok a) p f = f p
ok_to (Err e) p f = tt

module _ {T P : Type 0} where
  pub passed_on : {Q : Type 0} (r : Result T Memory) (e : Memory) → IsErrAnd r (λ y. y ≡ e) → (e ≡ Want) ⊎ ((e ≡ Full) × Q) → (Q → P) → IfErr r (λ y. (y ≡ Want) ⊎ ((y ≡ Full) × P))
  passed_on (Ok x) e h cause f = absurd h
  passed_on (Err y) e h cause f = elim cause [ inl want ↦ inl (h ∙ want) | inr full ↦ inr (h ∙ full.0, f full.1) ]

  pub not_pushed : (r : Result T Memory) (e : Memory) (pushed : ℕ) → IsErrAnd r (λ y. y ≡ e) → RefusesNumber pushed e → (pushed + 1 ≡ 2 ^ 64 → P) → IfErr r (λ y. (y ≡ Want) ⊎ ((y ≡ Full) × P))
  not_pushed (Ok x) e pushed h refused f = absurd h
  not_pushed (Err y) e pushed h refused f = by_refusal y e pushed h refused f
