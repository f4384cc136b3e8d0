use Rattle.std.proofs.Common.{◌≡◌, ◌≤◌, length, take}
use Rattle.layout_roles.specs.Zones.{zone_names}
use Rattle.layout_roles.proofs.roles.Roles.zone_count.Given as goal

abbrev pub invariant-loop-i : goal.invariant-loop-i
invariant-loop-i l = record { within : l.count ≤ l.i; count : l.count ≡ length (zone_names (take l.i l.roles)) }
