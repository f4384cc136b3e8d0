-- What is asked for, and what is answered.
use Rattle.std.specs.Prelude.{ℕ, ◌≡◌, ◌+◌, ◌<◌, ◌≤◌, List}
use Rattle.layout_roles.specs.declared.role.Role.{Role}
use Rattle.layout_roles.specs.declared.cut.Cut.{Cut}
use Rattle.layout_roles.specs.Certificates.{ShowsNone}
use Rattle.layout_size.specs.declared.fault.LayoutFault.{LayoutFault}

-- what is said of the cut where there is no assignment
abbrev pub IfNoAssignment : LayoutFault → (Cut → Type 0) → Type 0
IfNoAssignment (LayoutFault.NoAssignment cut) P = P cut
IfNoAssignment _ P = Unit {0}

-- what is known of a fault where there are nodes and zones enough
abbrev pub IsLateFault : List Role → ℕ → LayoutFault → Type 0
IsLateFault roles r (LayoutFault.NoAssignment cut) = ShowsNone roles r cut
IsLateFault roles r LayoutFault.Memory = Unit {0}
IsLateFault roles r _ = ⊥
