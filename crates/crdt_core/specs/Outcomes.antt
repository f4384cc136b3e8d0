-- What a call answers when it gives up, in words that every crate shares.
use Rattle.std.specs.Prelude.{◌≡◌, ◌⊎◌, Result, IfErr}
use Rattle.crdt_core.specs.declared.memory.Memory.{Memory}
use Rattle.crdt_core.specs.declared.memory.Memory.TheVariants.{Want, Full}

-- where the call gave up, it wanted memory
abbrev pub OnlyWant : {A : Type 0} → Result A Memory → Type 0
OnlyWant result = IfErr result (λ e. e ≡ Want)

-- where the call gave up, it wanted memory, or something was too great for its type for this cause
abbrev pub WantOr : {A : Type 0} → Result A Memory → Type 0 → Type 0
WantOr result cause = IfErr result (λ e. (e ≡ Want) ⊎ ((e ≡ Full) × cause))
