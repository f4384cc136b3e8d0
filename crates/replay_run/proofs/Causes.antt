-- Why a call gave up, in the words of its caller.
use Rattle.std.proofs.Common.{◌≡◌, Result, Ok, Err, IfErr, ◌⊎◌, inl, inr, sym, subst}
use Rattle.std.specs.Result.{IsErrAnd}
use Rattle.crdt_core.specs.declared.memory.Memory.{Memory as Why}
use Rattle.crdt_core.specs.declared.memory.Memory.TheVariants.{Want, Full}
use Rattle.replay_run.specs.declared.stop.ReplayStop.{ReplayStop}
use Rattle.replay_run.specs.declared.stop.ReplayStop.TheVariants.{Memory, Number}
use Rattle.replay_run.specs.Stop.{stop_of_memory}

-- what is said of the cause is said of the answer
pub given_up : {T E : Type 0} (r : Result T E) (e : E) (P : E → Type 0) → IsErrAnd r (λ x. x ≡ e) → P e → IfErr r P
given_up (Ok v) e P is h = tt
given_up (Err x) e P is h = subst P (sym is) h

-- an answer that is handed on
pub handed_on : {T E : Type 0} (r : Result T E) (P Q : E → Type 0) → ((e : E) → P e → Q e) → IfErr r P → IfErr r Q
handed_on (Ok v) P Q f h = tt
handed_on (Err e) P Q f h = f e h

-- what is said of want of memory, and of room that lacks
pub stop_is : (why : Why) (P : ReplayStop → Type 0) (A : Type 0) → P Memory → (A → P Number) → (why ≡ Want) ⊎ ((why ≡ Full) × A) → P (stop_of_memory why)
stop_is why P A want full (inl e) = subst (λ (w : Why). P (stop_of_memory w)) (sym e) want
stop_is why P A want full (inr h) = subst (λ (w : Why). P (stop_of_memory w)) (sym h.0) (full h.1)

pub stopped : {T : Type 0} (r : Result T ReplayStop) (why : Why) (P : ReplayStop → Type 0) (A : Type 0) → IsErrAnd r (λ x. x ≡ stop_of_memory why) → P Memory → (A → P Number) → (why ≡ Want) ⊎ ((why ≡ Full) × A) → IfErr r P
stopped r why P A is want full causes = given_up r (stop_of_memory why) P is (stop_is why P A want full causes)

pub wanting : {T : Type 0} (r : Result T ReplayStop) (why : Why) (P : ReplayStop → Type 0) → IsErrAnd r (λ x. x ≡ stop_of_memory why) → P Memory → why ≡ Want → IfErr r P
wanting r why P is want e = stopped r why P ⊥ is want (λ no. absurd no) (inl e)
