use Rattle.std.proofs.Common.{◌≡◌, ℕ, sym, ap, ◌∙◌, arith}
use Rattle.std.specs.List.{sum_by, range_with_len}
use Rattle.side_model.specs.Sides.{set_of}
use Rattle.layout_judge.specs.Weights.{at_most}
use Rattle.layout_judge.proofs.Weighed.{fronts, fronts_are, range_more}
use Rattle.layout_judge.proofs.cuts.front_weight.Goals as goal

pub returns : goal.returns
returns c =
    let side = set_of c.args.side.now.vertices.now in
    let zones = c.args.zones.now in
    let end : c.loop-p.p ≡ 256 = omega arith in
    c.loop-p.invariant ∙ ap at_most (ap (λ (n : ℕ). sum_by (fronts side c.args.r zones) (range_with_len 0 n)) end ∙ sym (fronts_are side c.args.r zones 256))

-- a partition more
pub loop-p-preserved : goal.loop-p-preserved
loop-p-preserved c =
    let each = fronts (set_of c.args.side.now.vertices.now) c.args.r c.args.zones.now in
    c.saturating_add-total.ensures ∙ range_more each c.loop-p.p c.loop-p.total c.partition_weight.result c.loop-p.invariant c.partition_weight.ensures
