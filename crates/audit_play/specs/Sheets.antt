-- What an apply is given: the layout of the sheet for its line.
use Rattle.std.specs.Prelude.{◌≡◌, ℕ, ◌==◌, if◌then◌else◌, Option, Some, None, List, [], ◌∷◌}
use Rattle.layout_roles.specs.Fits.{IsGreatest}
use Rattle.change_model.specs.Given.{given_at}
use Rattle.cluster_machine.specs.declared.applied.Applied.{Applied}
use Rattle.cluster_machine.specs.Choices.{Decision}
use Rattle.store_model.specs.declared.event.Event.{Event}
use Rattle.store_model.specs.declared.event.Event.TheVariants.{Apply}
use Rattle.store_model.specs.declared.event.Numbered.{Numbered}
use Rattle.store_model.specs.Run.{State}
use Rattle.store_model.specs.Acts.{IsLawfulAct}
use Rattle.store_model.specs.Events.{act_of}
use Rattle.audit_model.specs.Printed.{Staged}
use Rattle.audit_prints.specs.declared.sheet.Sheet.{Sheet}
use Rattle.audit_play.specs.Staged.{is_of}

-- what is shown is of the greatest partition size
abbrev pub IsGreatestShown : Applied → Type 0
IsGreatestShown a = IsGreatest a.roles.list a.certified.r a.certified.size a.certified.sets.sets

-- so is what is shown on a sheet
abbrev pub IsGreatestSheet : Sheet → Type 0
IsGreatestSheet s = IsGreatestShown s.shown

-- the first sheet for a line of the schedule
abbrev pub sheet_at : List Sheet → ℕ → Option Sheet
sheet_at [] line = None
sheet_at (s ∷ ss) line = if s.line == line then Some s else sheet_at ss line

-- the node of an apply
abbrev pub node_of : Event → Option ℕ
node_of (Apply n) = Some n
node_of event = None

-- the layout of a sheet, where it is of what is staged
abbrev pub shown_for : Staged → Option Sheet → Option Applied
shown_for s None = None
shown_for s (Some sheet) = if is_of s sheet then Some sheet.shown else None

-- a layout that is at hand, for an apply at this node
abbrev pub shown_at : Option ℕ → Option Applied → Option (ℕ × Applied)
shown_at None shown = None
shown_at (Some n) None = None
shown_at (Some n) (Some shown) = Some (n, shown)

-- the node and the layout of an apply for which there is a sheet of what is staged
abbrev pub given_for : List Sheet → Staged → Numbered → Option (ℕ × Applied)
given_for sheets s e = shown_at (node_of e.event) (shown_for s (sheet_at sheets e.line))

-- an event is given this layout at this node where there is one, and else what is lawful
abbrev pub IsGivenSheet : State → Event → Decision → Option (ℕ × Applied) → Type 0
IsGivenSheet s event choice None = IsLawfulAct s (act_of event choice)
IsGivenSheet s event choice (Some g) = choice ≡ given_at s.world g.0 g.1
