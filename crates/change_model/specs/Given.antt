-- What an apply is given where its layout was computed before.
use Rattle.std.specs.Prelude.{◌≡◌, ℕ, suc, cond, List}
use Rattle.layout_roles.specs.declared.role.Role.{Role}
use Rattle.layout_roles.specs.declared.redundancy.Redundancy.{Redundancy}
use Rattle.layout_roles.specs.declared.layout.Layout.{Layout}
use Rattle.layout_roles.specs.Certificates.{AreEnough, IsCertified}
use Rattle.cluster_machine.specs.declared.applied.Applied.{Applied}
use Rattle.cluster_machine.specs.declared.step.Step.TheVariants.{Apply}
use Rattle.cluster_machine.specs.declared.step.Refusal.TheVariants.{VersionLimit}
use Rattle.cluster_machine.specs.Choices.{Decision}
use Rattle.cluster_machine.specs.Step.{given, none_given}
use Rattle.cluster_machine.specs.Worlds.{Model, Doing, newest_at, comes_to_layout}

-- the layout that is shown, as this version
abbrev pub layout_of : ℕ → Applied → Layout
layout_of version shown = record { version = version; roles = shown.roles; r = shown.certified.r; size = shown.certified.size; sets = shown.certified.sets }

-- what an apply at a node is given where this layout was computed before: it, as the node's next version, or nothing where the apply is refused
abbrev pub given_at : {R : Type 0} → Model R → ℕ → Applied → Decision
given_at w n shown = cond (comes_to_layout w n) (given (layout_of (suc (newest_at w n)) shown) shown) (none_given VersionLimit)

-- an apply that is given it
abbrev pub applying : {R : Type 0} → Model R → ℕ → Applied → Doing R
applying w n shown = record { step = Apply n; choice = given_at w n shown }

-- what is shown is what may be computed of these roles and this redundancy
pub record IsFor (roles : List Role) (wanted : Redundancy) (shown : Applied) : Type 0 where
  pub same : shown.roles.list ≡ roles
  pub enough : AreEnough roles wanted
  pub certified : IsCertified roles wanted shown.certified
