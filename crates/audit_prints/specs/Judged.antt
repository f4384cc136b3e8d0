-- What is found where a layout may be printed.
use Rattle.std.specs.Prelude.{◌≡◌, ℕ, suc, ⊤, Option, List, [], ◌∷◌, ◌++◌}
use Rattle.std.specs.List.{AllByRecursion}
use Rattle.store_model.specs.declared.event.Event.{Event}
use Rattle.audit_model.specs.declared.said.Told.{Told}
use Rattle.audit_model.specs.declared.said.Said.{Said}
use Rattle.audit_model.specs.Printed.{Staged, Print, print_of, IsLawfulPrint, IsUnlawful}
use Rattle.audit_prints.specs.declared.sheet.Sheet.{Sheet}
use Rattle.audit_prints.specs.declared.sheet.Judged.TheVariants as judged
use Rattle.audit_prints.specs.Sheets.{IsShownOf, AreJudged}
use Rattle.audit_prints.specs.declared.prints.Found.{Found}
use Rattle.audit_prints.specs.declared.prints.Found.TheVariants.{Nothing, Lawful, Unlawful}

-- a print of what is staged and of this apply's line, which begins in the line after line k of the transcript
pub record IsAt (s : Staged) (k line : ℕ) (p : Print) : Type 0 where
  pub staged : p.staged ≡ s
  pub place : p.place ≡ suc k
  pub line_is : p.line ≡ line

-- none is printed; or one that is lawful, of which this is shown; or one that isn't lawful
abbrev pub IsFound : Staged → ℕ → ℕ → List Print → Found → Type 0
IsFound s k line [] Nothing = ⊤
IsFound s k line (p ∷ []) (Lawful shown) = IsAt s k line p × (IsLawfulPrint p × IsShownOf p shown)
IsFound s k line (p ∷ []) Unlawful = IsAt s k line p × (IsLawfulPrint p → ⊥)
IsFound s k line ps other = ⊥

-- past an event's line, of which this is told: what was judged before is judged with what is printed there
abbrev pub GoesOn : Staged → ℕ → Option Event → Told → List Said → List Sheet → List Sheet → Type 0
GoesOn s line e told saids old new =
    (k : ℕ) (before : List Print) → AreJudged before (judged.Lawful old) → AreJudged (before ++ print_of s k line e told saids) (judged.Lawful new)

-- what is printed there isn't lawful: it is the first, where all before it are
abbrev pub Stops : Staged → ℕ → Option Event → Told → List Said → Type 0
Stops s line e told saids =
    (k : ℕ) (before later : List Print) → AllByRecursion IsLawfulPrint before → IsUnlawful (before ++ (print_of s k line e told saids ++ later)) (suc k)
