-- What a reader says: the value with a property, or that none has it.
use Rattle.std.specs.Prelude.{Option, Some, None, Result, Ok, Err, ⊤}
use Rattle.schedule_text.specs.declared.fault.LineFault.{LineFault}
use Rattle.schedule_text.specs.declared.fault.LineFault.TheVariants.{Outside, Memory}

-- a value with the property, or none has it
abbrev pub Finds : {T : Type 0} → (T → Type 0) → Option T → Type 0
Finds P None = (x : _) → P x → ⊥
Finds P (Some x) = P x

-- the same, unless memory was wanting
abbrev pub Reads : {T : Type 0} → (T → Type 0) → Result T LineFault → Type 0
Reads P (Ok x) = P x
Reads P (Err Outside) = (x : _) → P x → ⊥
Reads P (Err Memory) = ⊤
