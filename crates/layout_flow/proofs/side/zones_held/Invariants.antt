use Rattle.std.proofs.Common.{◌≡◌, take, map}
use Rattle.std.specs.List.{filter, enumerate_from}
use Rattle.layout_flow.specs.Closed.{zone_is_held}
use Rattle.layout_flow.proofs.side.zones_held.Given as goal

abbrev pub invariant-loop-i : goal.invariant-loop-i
invariant-loop-i l = l.numbers ≡ map (λ zone. zone.0) (filter (λ zone. zone_is_held 256 l.size l.each zone.1) (take l.i (enumerate_from 0 l.zones)))
