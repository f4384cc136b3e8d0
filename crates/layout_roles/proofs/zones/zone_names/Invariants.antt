use Rattle.std.proofs.Common.{◌≡◌, take}
use Rattle.layout_roles.specs.Zones.{zone_names}
use Rattle.layout_roles.proofs.zones.zone_names.Given as goal

abbrev pub invariant-loop-role : goal.invariant-loop-role
invariant-loop-role l = l.names ≡ zone_names (take l.role-index l.roles)
