use Rattle.std.proofs.Common.{◌≡◌, ◌+◌, take}
use Rattle.std.specs.List.{sum_by, enumerate_from}
use Rattle.side_model.specs.Sides.{set_of}
use Rattle.layout_judge.specs.Weights.{at_most}
use Rattle.layout_judge.proofs.Weighed.{front, zone_weighs}
use Rattle.layout_judge.proofs.cuts.partition_weight.Given as goal

abbrev pub invariant-loop-i : goal.invariant-loop-i
invariant-loop-i l = l.total ≡ at_most (front (set_of l.side.vertices.now) l.r l.p + sum_by (zone_weighs (set_of l.side.vertices.now) l.r l.p) (take l.i (enumerate_from 0 l.zones)))
