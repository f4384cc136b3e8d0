-- How an input is read, and what is stated of one that may be too long.
use Rattle.std.specs.Prelude.{◌≡◌, ◌⊎◌, ◌+◌, ◌<◌, ◌≤◌, ℕ, ⊤, List, length, drop, Option, Some, IfSome, Result, Err, OnOk, IfErr}
use Rattle.std.specs.Io.KnownBytes.{IsAtEnd}
use Rattle.lab_outside.specs.declared.ports.Source as source
use Rattle.lab_outside.specs.declared.exit.Status.{Status}
use Rattle.lab_outside.specs.declared.exit.Status.TheVariants.{Limit}
use Rattle.lab_outside.specs.declared.whole.ReadStop.{ReadStop}
use Rattle.lab_outside.specs.declared.whole.ReadStop.TheVariants as whole
use Rattle.lab_outside.specs.Rose.{Rose}
use Rattle.lab_main.specs.declared.reader.InputStop.{InputStop}
use Rattle.lab_main.specs.declared.reader.InputStop.TheVariants.{Read, Memory, Long}
use Rattle.lab_main.specs.Limits.{input_limit, input_line}

-- why a read stopped
abbrev pub stop_of_read : ReadStop → InputStop
stop_of_read whole.Failed = Read
stop_of_read whole.Memory = Memory

-- it was read to the first byte past the limit
abbrev pub IsLong : InputStop → Type 0
IsLong Read = ⊥
IsLong Memory = ⊥
IsLong Long = ⊤

-- an input was read to its end, or to the first byte past its limit where it is longer; a fault is told where its count rose, and no other stop in its place
pub record ReadsInput {I T : Type 0} (i : source.Ghosts I) (result : Result T InputStop) (old new : I) : Type 0 where
  pub end : OnOk result (IsAtEnd (i.left new))
  pub long : result ≡ Err Long → IfSome (i.left old) (λ bytes. input_limit < length bytes)
  pub read : IfErr result IsLong → IfSome (i.left old) (λ bytes. i.left new ≡ Some (drop (input_limit + 1) bytes))
  pub fault : result ≡ Err Read → Rose (i.faults old) (i.faults new)
  pub told : (result ≡ Err Read) ⊎ (i.faults new ≡ i.faults old)

-- what is stated for an input: the line of its limit where it is longer, and else what is stated for its bytes
pub data OrTooLong (Stated : List ℕ → Status → List ℕ → Type 0) (input : List ℕ) (is : Status) (text : List ℕ) : Type 0 where
  too_long : input_limit < length input → is ≡ Limit → text ≡ input_line → OrTooLong Stated input is text
  within : length input ≤ input_limit → Stated input is text → OrTooLong Stated input is text

-- the same, where the input tells its bytes
abbrev pub OfInput : (List ℕ → Status → List ℕ → Type 0) → Option (List ℕ) → Status → List ℕ → Type 0
OfInput Stated input is text = IfSome input (λ bytes. OrTooLong Stated bytes is text)
