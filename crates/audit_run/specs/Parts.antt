-- How an input is cut into a schedule and the transcript behind it.
use Rattle.std.specs.Prelude.{◌≡◌, ℕ, Option, Some, None, List, ◌∷◌, ◌++◌, codes}
use Rattle.std.specs.List.{AllByRecursion}
use Rattle.text_model.specs.Grammar.{lines_of}

-- the line between them
abbrev pub mark : List ℕ
mark = codes "---"

-- none of these lines is that one
abbrev pub HaveNoMark : List (List ℕ) → Type 0
HaveNoMark lines = AllByRecursion (λ line. line ≡ mark → ⊥) lines

-- the lines of the input are those of the schedule, the mark, which is none of these, and those of the transcript
pub record IsCut (input schedule transcript : List ℕ) : Type 0 where
  pub lines_are : lines_of input ≡ lines_of schedule ++ mark ∷ lines_of transcript
  pub first : HaveNoMark (lines_of schedule)

-- the input is cut into these parts: where it has no mark it is a schedule, and there is no transcript
abbrev pub AreParts : List ℕ → List ℕ → Option (List ℕ) → Type 0
AreParts input schedule None = (lines_of schedule ≡ lines_of input) × HaveNoMark (lines_of input)
AreParts input schedule (Some transcript) = IsCut input schedule transcript
