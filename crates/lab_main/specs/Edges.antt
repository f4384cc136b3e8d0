-- What is said of a command's input and output, whatever was asked.
use Rattle.std.specs.Prelude.{◌≡◌, ◌⊎◌, ◌+◌, ℕ, ⊤, List, [], drop, Option, Some, IfSome}
use Rattle.std.specs.Io.KnownBytes.{IsAtEnd}
use Rattle.lab_outside.specs.declared.ports.Source as source
use Rattle.lab_outside.specs.declared.ports.Sink as sink
use Rattle.lab_outside.specs.declared.exit.Status.{Status}
use Rattle.lab_outside.specs.declared.exit.Status.TheVariants.{Done, Refused, Usage, ReadFault, WriteFault, LinkFault, Memory, Limit}
use Rattle.lab_outside.specs.Rose.{Rose}
use Rattle.lab_outside.specs.Bytes.{Wrote, WrotePrefix}
use Rattle.lab_main.specs.Limits.{input_limit}

-- the statuses that come with the whole text that is stated
abbrev pub IsStated : Status → Type 0
IsStated Done = ⊤
IsStated Refused = ⊤
IsStated Usage = ⊤
IsStated Limit = ⊤
IsStated ReadFault = ⊥
IsStated WriteFault = ⊥
IsStated LinkFault = ⊥
IsStated Memory = ⊥

-- the statuses of a command that has an input which come only when that was read
abbrev pub IsAfterReading : Status → Type 0
IsAfterReading Done = ⊤
IsAfterReading Refused = ⊤
IsAfterReading WriteFault = ⊤
IsAfterReading LinkFault = ⊤
IsAfterReading Limit = ⊤
IsAfterReading Usage = ⊥
IsAfterReading ReadFault = ⊥
IsAfterReading Memory = ⊥

-- the statuses of a command that has no link
abbrev pub IsUnlinked : Status → Type 0
IsUnlinked Usage = ⊥
IsUnlinked LinkFault = ⊥
IsUnlinked _ = ⊤

-- this status is stated, and the text with it was written
pub record Answers (Stated : Status → List ℕ → Type 0) (is : Status) (old new : Option (List ℕ)) : Type 0 where
  pub text : List ℕ
  pub stated : Stated is text
  pub wrote : Wrote old new text

-- nothing was written, or a first part of a text that is stated, and no more
pub data Begins (Stated : Status → List ℕ → Type 0) (old new : Option (List ℕ)) : Type 0 where
  nothing : Wrote old new [] → Begins Stated old new
  begun : (is : Status) (text : List ℕ) → Stated is text → WrotePrefix old new text → Begins Stated old new

-- how an input was read: to its end, or to the first byte past its limit, before anything but a fault of it or want of memory is told; a fault is told where its count rose, and no other status in its place
pub record Reads {I : Type 0} (i : source.Ghosts I) (result : Status) (old new : I) : Type 0 where
  pub end : result ≡ Done → IsAtEnd (i.left new)
  pub read : IsAfterReading result → IfSome (i.left old) (λ bytes. i.left new ≡ Some (drop (input_limit + 1) bytes))
  pub fault : result ≡ ReadFault → Rose (i.faults old) (i.faults new)
  pub told : (result ≡ ReadFault) ⊎ (i.faults new ≡ i.faults old)

-- what was written to an output: the whole text with the status for which it is stated, and whatever the status a first part of such a text; a fault is told where its count rose, and no other status in its place
pub record Writes {O : Type 0} (o : sink.Ghosts O) (Stated : Status → List ℕ → Type 0) (result : Status) (old new : O) : Type 0 where
  pub whole : IsStated result → Answers Stated result (o.written old) (o.written new)
  pub begins : Begins Stated (o.written old) (o.written new)
  pub fault : result ≡ WriteFault → Rose (o.faults old) (o.faults new)
  pub told : (result ≡ WriteFault) ⊎ (o.faults new ≡ o.faults old)

-- what is said of input and output, whatever was asked: the input was read first, what is stated was written, and faults are told and have their causes; after a failed read the output is as before
pub record Edges {I O : Type 0} (i : source.Ghosts I) (o : sink.Ghosts O) (Stated : Status → List ℕ → Type 0) (result : Status) (input input' : I) (output output' : O) : Type 0 where
  pub reads : Reads i result input input'
  pub writes : Writes o Stated result output output'
  pub unwritten : result ≡ ReadFault → output' ≡ output

-- where no count of faults of input and output rose, the status and the whole text that are stated came, or memory was wanting
abbrev pub IsAnswered : {I O : Type 0} → source.Ghosts I → sink.Ghosts O → (Status → List ℕ → Type 0) → Status → I → I → O → O → Type 0
IsAnswered i o Stated result input input' output output' =
    (Rose (i.faults input) (i.faults input') → ⊥) → (Rose (o.faults output) (o.faults output') → ⊥) → Answers Stated result (o.written output) (o.written output') ⊎ (result ≡ Memory)
