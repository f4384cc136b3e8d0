use Rattle.std.proofs.Common.{◌≡◌, ◌+◌, take}
use Rattle.std.specs.List.{sum_by}
use Rattle.side_model.specs.Sides.{set_of}
use Rattle.layout_judge.specs.Weights.{at_most}
use Rattle.layout_judge.proofs.Weighed.{zone_front, to_node}
use Rattle.layout_judge.proofs.cuts.zone_weight.Given as goal

abbrev pub invariant-loop-role : goal.invariant-loop-role
invariant-loop-role l = l.total ≡ at_most (zone_front (set_of l.side.vertices.now) l.r l.p l.number + sum_by (to_node (set_of l.side.vertices.now) l.p l.number) (take l.role-index l.zone))
