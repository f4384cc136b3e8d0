-- What a greatest flow answers.
use Rattle.std.specs.Prelude.{◌≡◌}
use Rattle.layout_roles.specs.declared.assignment.Assignment.{Assignment}
use Rattle.layout_flow.specs.declared.answer.FlowOrCut.{FlowOrCut}
use Rattle.layout_roles.specs.declared.cut.Cut.{Cut as TheCut}

-- what holds of the answer, be it an assignment or a cut
abbrev pub MatchAnswer : FlowOrCut → (Assignment → Type 0) → (TheCut → Type 0) → Type 0
MatchAnswer (FlowOrCut.Flow assignment) P Q = P assignment
MatchAnswer (FlowOrCut.Cut cut) P Q = Q cut

-- what is said of a flow's assignment
abbrev pub IfFlow : FlowOrCut → (Assignment → Type 0) → Type 0
IfFlow answer P = MatchAnswer answer P (λ _. Unit {0})

-- what is said of a cut
abbrev pub IfCut : FlowOrCut → (TheCut → Type 0) → Type 0
IfCut answer Q = MatchAnswer answer (λ _. Unit {0}) Q
