-- The number with which the program ends.
use Rattle.std.specs.Prelude.{ℕ}
use Rattle.lab_outside.specs.declared.exit.Status.{Status}
use Rattle.lab_outside.specs.declared.exit.Status.TheVariants.{Done, Refused, Usage, ReadFault, WriteFault, LinkFault, Memory, Limit}

-- the number of each status
abbrev pub code_of : Status → ℕ
code_of Done = 0
code_of Refused = 1
code_of Usage = 2
code_of ReadFault = 3
code_of WriteFault = 4
code_of LinkFault = 5
code_of Memory = 6
code_of Limit = 7
