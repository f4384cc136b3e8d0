use Rattle.std.proofs.Common.{◌≡◌, take}
use Rattle.std.specs.List.{sum_by}
use Rattle.side_model.specs.Sides.{set_of}
use Rattle.layout_judge.specs.Weights.{at_most}
use Rattle.layout_judge.proofs.Weighed.{of_storage}
use Rattle.layout_judge.proofs.cuts.node_weight.Given as goal

abbrev pub invariant-loop-role : goal.invariant-loop-role
invariant-loop-role l = l.total ≡ at_most (sum_by (of_storage (set_of l.side.vertices.now) l.size) (take l.role-index l.roles))
