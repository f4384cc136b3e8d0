use Rattle.std.proofs.Common.{◌≡◌, ◌++◌, take, drop}
use Rattle.layout_roles.specs.Zones.{put_in_order}
use Rattle.layout_roles.proofs.zones.place_of.Given as goal

abbrev pub invariant-loop-i : goal.invariant-loop-i
invariant-loop-i l = take l.i l.names ++ put_in_order (drop l.i l.names) l.name ≡ put_in_order l.names l.name
