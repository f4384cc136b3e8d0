use Rattle.std.proofs.Common.{◌≡◌, drop}
use Rattle.audit_play.specs.Sheets.{sheet_at}
use Rattle.audit_play.proofs.sheets.sheet_at.Given as goal

-- what is found among the sheets that are left is what is found among all
abbrev pub invariant-loop-sheet : goal.invariant-loop-sheet
invariant-loop-sheet l = sheet_at (drop l.sheet-index l.sheets) l.line ≡ sheet_at l.sheets l.line
