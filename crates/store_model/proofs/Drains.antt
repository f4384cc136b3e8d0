-- A drain is one delivery after the other.
use Rattle.std.proofs.Common.{◌≡◌, ℕ, zero, suc, Some, None, refl}
use Rattle.cluster_machine.specs.declared.step.Words.TheVariants.{Empty}
use Rattle.cluster_machine.specs.World.{undelivered}
use Rattle.store_model.specs.Run.{State, Outcome, silent, delivers, then_drains, drains}

-- it says nothing but what its deliveries tell
pub drains_quietly : (n : ℕ) (s : State) → (drains n s).refused ≡ None
drains_quietly zero s = refl
drains_quietly (suc n) s = elim (undelivered s.world) as (λ o. (elim o as (λ o. Outcome) [ None ↦ silent s | Some m ↦ let o = delivers s m in then_drains o (drains n o.state) ]).refused ≡ None) [ None ↦ refl | Some m ↦ refl ]

pub drains_empty : (n : ℕ) (s : State) → (drains n s).words ≡ Empty
drains_empty zero s = refl
drains_empty (suc n) s = elim (undelivered s.world) as (λ o. (elim o as (λ o. Outcome) [ None ↦ silent s | Some m ↦ let o = delivers s m in then_drains o (drains n o.state) ]).words ≡ Empty) [ None ↦ refl | Some m ↦ refl ]

pub drains_one : (n m : ℕ) (s : State) → undelivered s.world ≡ Some m → drains (suc n) s ≡ then_drains (delivers s m) (drains n (delivers s m).state)
drains_one n m s e = rw (e, drains) refl

pub drains_none : (n : ℕ) (s : State) → undelivered s.world ≡ None → drains n s ≡ silent s
drains_none zero s e = refl
drains_none (suc n) s e = rw (e, drains) refl
