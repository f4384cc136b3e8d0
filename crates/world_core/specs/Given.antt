-- What is decided of an apply.
use Rattle.std.specs.Prelude.{ℕ, suc, leb, not, ◌&&◌, cond, Result, Ok, Err}
use Rattle.layout_roles.specs.declared.redundancy.Redundancy.{Redundancy}
use Rattle.layout_roles.specs.declared.roles.Roles.{Roles}
use Rattle.layout_roles.specs.declared.cut.Cut.{Cut}
use Rattle.cluster_machine.specs.declared.step.Refusal.{Refusal}
use Rattle.cluster_machine.specs.declared.step.Refusal.TheVariants.{NotMember, VersionTaken, VersionLimit}
use Rattle.cluster_machine.specs.Layouts.{layouts}
use Rattle.cluster_machine.specs.World.{is_member_at}
use Rattle.cluster_machine.specs.Step.{most_versions}
use Rattle.cluster_machine.specs.Choices.{IsRefused}
use Rattle.cluster_machine.specs.declared.applied.Applied.{Applied}
use Rattle.cluster_machine.specs.Worlds.{Model, newest_at, does}
use Rattle.change_model.specs.Given.{applying, IsFor}
use Rattle.table_schema.specs.Words.{Words}
use Rattle.world_core.specs.declared.report.Report.{Report}
use Rattle.world_core.specs.declared.world.World.{World}
use Rattle.world_core.specs.Stands.{PlaysSo}
use Rattle.world_core.specs.declared.decide.Decided.{Decided}
use Rattle.world_core.specs.declared.decide.Decided.TheVariants.{Given, Refused}

-- a layout was computed of these roles, or there is none for this reason
abbrev pub IsDecided : Roles → Redundancy → Decided → Type 0
IsDecided roles wanted (Given shown) = IsFor roles.list wanted shown
IsDecided roles wanted (Refused reason) = IsRefused roles.list wanted reason

-- the version of a layout that is applied at node n, or why it is refused: versions are applied one after the other, each once in the world
abbrev pub next_version : {R : Type 0} → Model R → ℕ → Result ℕ (Refusal Cut)
next_version w n =
    cond (leb 1 w.applied && not (is_member_at layouts w n)) (Err NotMember)
    (cond (leb (suc (newest_at w n)) w.applied) (Err (VersionTaken (suc (newest_at w n))))
    (cond (leb most_versions w.applied) (Err VersionLimit) (Ok (suc (newest_at w n)))))

-- whatever world it stood for, this layout was applied at node n, or the apply was refused
abbrev pub Applies : {S R : Type 0} → (R → R → R) → Words R → World S R → World S R → Report R → ℕ → Applied → Type 0
Applies join s old new report n shown = PlaysSo join s old new report (λ w. does join s w (applying w n shown))
