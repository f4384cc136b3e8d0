-- How a program's last text is written.
use Rattle.std.specs.Prelude.{◌≡◌, ℕ, List, [], ◌∷◌, ◌++◌, codes, Option}
use Rattle.lab_outside.specs.declared.exit.Status.{Status}
use Rattle.lab_outside.specs.declared.exit.Status.TheVariants.{WriteFault}
use Rattle.lab_outside.specs.Rose.{Rose}
use Rattle.lab_outside.specs.Bytes.{Wrote, WrotePrefix}

-- it ends with this status and this text written, unless a write fails
pub data Ends (is : Status) (text : List ℕ) (result : Status) (old new : Option (List ℕ)) (faults risen : ℕ) : Type 0 where
  said : result ≡ is → Wrote old new text → Ends is text result old new faults risen
  cut_off : result ≡ WriteFault → Rose faults risen → WrotePrefix old new text → Ends is text result old new faults risen

-- the words that the programs know
abbrev pub usage_line : List ℕ
usage_line = codes "usage: garage_lab layout | replay [--check] | audit | k2v | workload N SEED | serve PORT COUNT" ++ 10 ∷ []
