use Rattle.std.proofs.Common.{◌≡◌, ◌≤◌, List, length, sym, ap, subst, ◌∙◌}
use Rattle.layout_roles.specs.declared.role.Role.{Role}
use Rattle.layout_roles.specs.Zones.{zones}
use Rattle.layout_flow.proofs.Whole.{few_zones}
use Rattle.layout_judge.proofs.Weighed.{both_weigh}
use Rattle.layout_judge.proofs.cuts.weight.Goals as goal

pub front_weight-front-requires-clause-few : goal.front_weight-front-requires-clause-few
front_weight-front-requires-clause-few c =
    let roles = c.args.roles.now in
    let groups : c.as_slice-2.result.now ≡ zones roles.list = c.as_slice-2.ensures ∙ (c.in_ok-zones.ensures.groups ∙ ap zones c.as_slice.ensures) in
    subst (λ (zs : List (List Role)). length zs ≤ 256) (sym groups) (few_zones roles.list roles.ascending roles.numbered)

pub returns-clause-weight : goal.returns-clause-weight
returns-clause-weight c =
    let roles = c.args.roles.now in
    let groups : c.as_slice-2.result.now ≡ zones roles.list = c.as_slice-2.ensures ∙ (c.in_ok-zones.ensures.groups ∙ ap zones c.as_slice.ensures) in
    both_weigh c.new-side.result.vertices.now c.args.side.now roles.list c.as_slice-3.result.now c.as_slice-2.result.now c.args.r c.args.size
    c.front_weight-front.result c.node_weight-nodes.result c.saturating_add.result
    c.new-side.ensures groups c.as_slice-3.ensures c.front_weight-front.ensures c.node_weight-nodes.ensures c.saturating_add.ensures
