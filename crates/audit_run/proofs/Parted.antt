-- An input is cut at its mark.
use Rattle.std.proofs.Common.{◌≡◌, ℕ, List, ◌∷◌, ◌++◌, take, drop, ap, ◌∙◌}
use Rattle.text_model.specs.Grammar.{lines_of}
use Rattle.audit_run.specs.Parts.{mark, IsCut}
use Rattle.audit_run.specs.Scanned.{IsScanned}
use Rattle.audit_run.proofs.Marks.{text_lines}

module _ (input : List ℕ) (end next : ℕ) (h : IsScanned input end) (behind : lines_of (drop end input) ≡ mark ∷ lines_of (drop next input)) where
  pub is_cut : IsCut input (take end input) (drop next input)
  is_cut = record { lines_are = text_lines input end h ∙ ap (λ ls. lines_of (take end input) ++ ls) behind; first = h.none }
