-- What is answered where no assignment fits.
use Rattle.layout_roles.specs.declared.cut.Cut.{Cut}
use Rattle.layout_moves.specs.declared.fault.MoveFault.{MoveFault}

-- what is said of the cut where there is no assignment
abbrev pub IfNoAssignment : MoveFault → (Cut → Type 0) → Type 0
IfNoAssignment (MoveFault.NoAssignment cut) P = P cut
IfNoAssignment MoveFault.Memory P = Unit {0}
