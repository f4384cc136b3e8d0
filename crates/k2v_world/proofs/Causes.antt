-- Why a call failed, in the words of its caller.
use Rattle.std.proofs.Common.{◌≡◌, Result, Ok, Err, IfErr, ◌∙◌, ◌⊎◌, inl, inr}
use Rattle.std.specs.Result.{IsErrAnd}
use Rattle.crdt_core.specs.declared.memory.Memory.{Memory}
use Rattle.crdt_core.specs.declared.memory.Memory.TheVariants.{Want, Full}

-- this error came for want of memory, or because of A
abbrev pub Comes : Memory → Type 0 → Type 0
Comes e A = (e ≡ Want) ⊎ ((e ≡ Full) × A)

-- an error that is handed on
pub handed_on : {T A B : Type 0} (r : Result T Memory) (e : Memory) → IsErrAnd r (λ x. x ≡ e) → (A → B) → Comes e A → IfErr r (λ x. Comes x B)
handed_on (Ok v) e is f causes = tt
handed_on (Err x) e is f (inl want) = inl (is ∙ want)
handed_on (Err x) e is f (inr full) = inr (is ∙ full.0, f full.1)

-- an answer that is handed on
pub same_causes : {T A B : Type 0} (r : Result T Memory) → (A → B) → IfErr r (λ x. Comes x A) → IfErr r (λ x. Comes x B)
same_causes (Ok v) f causes = tt
same_causes (Err x) f (inl want) = inl want
same_causes (Err x) f (inr full) = inr (full.0, f full.1)
