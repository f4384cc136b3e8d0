-- Which values of the code stand for the layouts that a transcript prints.
use Rattle.std.specs.Prelude.{◌≡◌, ◌+◌, ℕ, ⊤, List, [], ◌∷◌}
use Rattle.std.specs.List.{AllByRecursion, filter}
use Rattle.layout_roles.specs.declared.layout.Layout.{Layout}
use Rattle.layout_roles.specs.Network.{network, vertices}
use Rattle.layout_roles.specs.Cuts.{weight}
use Rattle.layout_roles.specs.Certificates.{zones_wanted}
use Rattle.side_model.specs.Sides.{set_of}
use Rattle.cluster_machine.specs.declared.applied.Applied.{Applied}
use Rattle.audit_model.specs.Printed.{Staged, Printed, Print, IsLawfulPrint, IsUnlawful}
use Rattle.audit_prints.specs.declared.sheet.Sheet.{Sheet}
use Rattle.audit_prints.specs.declared.sheet.Judged.{Judged}
use Rattle.audit_prints.specs.declared.sheet.Judged.TheVariants.{Lawful, Unlawful}

-- what is shown of a layout is what these lines print of it, with the printed cut, whose vertices are shown in order, for what is staged
pub record Shows (s : Staged) (p : Printed) (shown : Applied) : Type 0 where
  pub roles : shown.roles.list ≡ s.roles
  pub redundancy : shown.certified.r ≡ zones_wanted s.wanted s.roles
  pub size : shown.certified.size ≡ p.size
  pub sets : shown.certified.sets.sets ≡ p.sets
  pub cut_size : shown.certified.cut.size ≡ p.size + 1
  pub cut_weight : shown.certified.cut.weight ≡ weight (network s.roles (zones_wanted s.wanted s.roles) (p.size + 1)) (set_of p.side)
  pub cut_side : shown.certified.cut.side ≡ filter (set_of p.side) (vertices s.roles)

-- what is shown is of the printed layout
abbrev pub IsShownOf : Print → Applied → Type 0
IsShownOf p shown = Shows p.staged p.printed shown

-- a sheet is of the printed layout: of its apply's line, of the redundancy that was staged, and what is shown is that
pub record IsSheetOf (p : Print) (sheet : Sheet) : Type 0 where
  pub line : sheet.line ≡ p.line
  pub wanted : sheet.wanted ≡ p.staged.wanted
  pub shown : IsShownOf p sheet.shown

-- a sheet for each printed layout, in their order
abbrev pub AreSheetsOf : List Print → List Sheet → Type 0
AreSheetsOf [] [] = ⊤
AreSheetsOf (p ∷ ps) (sheet ∷ sheets) = IsSheetOf p sheet × AreSheetsOf ps sheets
AreSheetsOf [] (sheet ∷ sheets) = ⊥
AreSheetsOf (p ∷ ps) [] = ⊥

-- printed layouts are judged so: each is lawful, and these are their sheets; or the first that isn't lawful begins in line k
abbrev pub AreJudged : List Print → Judged → Type 0
AreJudged ps (Lawful sheets) = AllByRecursion IsLawfulPrint ps × AreSheetsOf ps sheets
AreJudged ps (Unlawful k) = IsUnlawful ps k

-- the layout of this version of which that is shown
abbrev pub layout_of : ℕ → Applied → Layout
layout_of version shown = record { version = version; roles = shown.roles; r = shown.certified.r; size = shown.certified.size; sets = shown.certified.sets }
