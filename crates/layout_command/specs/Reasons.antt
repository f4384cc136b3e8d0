-- The text of each reason why nothing is laid out.
use Rattle.std.specs.Prelude.{ℕ, List, [], ◌++◌}
use Rattle.layout_roles.specs.declared.role.Role.{Role}
use Rattle.layout_roles.specs.Text.{cut_lines}
use Rattle.layout_size.specs.declared.fault.LayoutFault.{LayoutFault}
use Rattle.layout_size.specs.declared.fault.LayoutFault.TheVariants.{TooFewNodes, TooFewZones, NoAssignment, Memory}
use Rattle.layout_command.specs.Answer.{nodes_line, zones_line, none_line}

-- the text of a reason; want of memory has none
abbrev pub reason_text : List Role → LayoutFault → List ℕ
reason_text roles (TooFewNodes nodes) = nodes_line nodes
reason_text roles (TooFewZones zones r) = zones_line zones r
reason_text roles (NoAssignment cut) = none_line ++ cut_lines roles cut
reason_text roles Memory = []

-- the reason is another than want of memory
abbrev pub IsTold : LayoutFault → Type 0
IsTold Memory = ⊥
IsTold _ = Unit {0}
