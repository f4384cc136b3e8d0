-- How far a text was searched for the mark.
use Rattle.std.specs.Prelude.{◌≡◌, ◌≤◌, ℕ, Option, Some, None, List, ◌∷◌, length, take, drop}
use Rattle.text_model.specs.Grammar.{lines_of}
use Rattle.audit_play.specs.Parting.{IsWhole}
use Rattle.audit_run.specs.Parts.{mark, HaveNoMark}

-- what stands before a place of the text is whole lines, none of which is the mark
pub record IsScanned (text : List ℕ) (place : ℕ) : Type 0 where
  pub inside : place ≤ length text
  pub whole : IsWhole (take place text)
  pub none : HaveNoMark (lines_of (take place text))

-- the mark is the line that begins at the first of these places, and what follows it begins at the second; or no line is the mark
abbrev pub IsMark : List ℕ → Option (ℕ × ℕ) → Type 0
IsMark text None = HaveNoMark (lines_of text)
IsMark text (Some p) = IsScanned text p.0 × (p.1 ≤ length text) × (lines_of (drop p.0 text) ≡ mark ∷ lines_of (drop p.1 text))
