use Rattle.std.proofs.Common.{◌≡◌, take, map}
use Rattle.layout_roles.specs.Zones.{nodes_in}
use Rattle.layout_flow.proofs.groups.by_zone.Given as goal

abbrev pub invariant-loop-name : goal.invariant-loop-name
invariant-loop-name l = l.groups ≡ map (nodes_in l.roles) (take l.name-index l.names)
