use Rattle.std.proofs.Common.{◌≡◌}
use Rattle.std.specs.List.{sum_by, range_with_len}
use Rattle.side_model.specs.Sides.{set_of}
use Rattle.layout_judge.specs.Weights.{at_most}
use Rattle.layout_judge.proofs.Weighed.{fronts}
use Rattle.layout_judge.proofs.cuts.front_weight.Given as goal

abbrev pub invariant-loop-p : goal.invariant-loop-p
invariant-loop-p l = l.total ≡ at_most (sum_by (fronts (set_of l.side.vertices.now) l.r l.zones) (range_with_len 0 l.p))
