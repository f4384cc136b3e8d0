use Rattle.std.proofs.Common.{◌≡◌, ◌+◌, List, take, sym, ap, ◌∙◌, arith}
use Rattle.std.specs.List.{sum_by}
use Rattle.std.proofs.lemmas.List.{take_all}
use Rattle.layout_roles.specs.declared.role.Role.{Role}
use Rattle.side_model.specs.Sides.{set_of}
use Rattle.layout_judge.specs.Weights.{at_most}
use Rattle.layout_judge.proofs.Weighed.{zone_front, to_node, zone_is}
use Rattle.layout_judge.proofs.cuts.zone_weight.Goals as goal

pub returns : goal.returns
returns c =
    let side = set_of c.args.side.now.vertices.now in
    let zone = c.args.zone.now in
    let all : take c.loop-role.role-index zone ≡ zone = take_all c.loop-role.role-index zone (omega arith) in
    c.loop-role.invariant
    ∙ ap at_most (ap (λ (xs : List Role). zone_front side c.args.r c.args.p c.args.number + sum_by (to_node side c.args.p c.args.number) xs) all ∙ sym (zone_is side c.args.r c.args.p c.args.number zone))
