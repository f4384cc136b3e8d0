use Rattle.std.proofs.Common.{◌≡◌, take}
use Rattle.std.specs.List.{flat_map}
use Rattle.layout_flow.specs.Closed.{zone_copies}
use Rattle.layout_flow.proofs.rows.copies_in_order.Given as goal

abbrev pub invariant-loop-zone : goal.invariant-loop-zone
invariant-loop-zone l = l.copies ≡ flat_map (zone_copies 256 l.size l.each) (take l.zone-index l.zones)
