-- What the code's value of what is staged stands for, and which layouts are lawful for it.
use Rattle.std.specs.Prelude.{ℕ, List}
use Rattle.cluster_machine.specs.declared.applied.Applied.{Applied}
use Rattle.audit_model.specs.declared.said.Said.{Said}
use Rattle.audit_model.specs.Printed.{Staged, printed, IsLawful}
use Rattle.audit_prints.specs.declared.stage.Stage.{Stage}
use Rattle.audit_prints.specs.Sheets.{Shows}

-- the roles and the redundancy
abbrev pub staged_of : Stage → Staged
staged_of stage = record { roles = stage.roles.list; wanted = stage.wanted }

-- what the lines after this size print is lawful
abbrev pub PrintLawful : Stage → ℕ → List Said → Type 0
PrintLawful stage size saids = IsLawful (staged_of stage) (printed stage.roles.list size saids)

-- and what is shown of a layout is that
abbrev pub PrintShown : Stage → ℕ → List Said → Applied → Type 0
PrintShown stage size saids shown = Shows (staged_of stage) (printed stage.roles.list size saids) shown
