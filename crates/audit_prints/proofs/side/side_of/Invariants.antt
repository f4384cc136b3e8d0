use Rattle.std.proofs.Common.{◌≡◌, ◌++◌, ◌∷◌, drop}
use Rattle.layout_roles.specs.declared.vertex.Vertex.TheVariants.{Source}
use Rattle.audit_model.specs.Printed.{side_in}
use Rattle.audit_prints.proofs.side.side_of.Given as goal

abbrev pub invariant-loop-said : goal.invariant-loop-said
invariant-loop-said l = Source ∷ side_in l.names l.saids ≡ l.side ++ side_in l.names (drop l.said-index l.saids)
