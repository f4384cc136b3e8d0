use Rattle.std.proofs.Common.{◌≡◌, take}
use Rattle.std.specs.List.{flat_map}
use Rattle.layout_flow.specs.Closed.{copies_of}
use Rattle.layout_flow.proofs.rows.copies_of_zone.Given as goal

abbrev pub invariant-loop-role : goal.invariant-loop-role
invariant-loop-role l = l.copies ≡ flat_map (copies_of 256 l.size) (take l.role-index l.zone)
