use Rattle.std.proofs.Common.{◌≡◌, take}
use Rattle.layout_roles.specs.Zones.{nodes_in}
use Rattle.layout_flow.proofs.groups.nodes_of.Given as goal

abbrev pub invariant-loop-role : goal.invariant-loop-role
invariant-loop-role l = l.nodes ≡ nodes_in (take l.role-index l.roles) l.name
