use Rattle.std.proofs.Common.{◌≡◌, List, take, sym, ap, ◌∙◌, arith}
use Rattle.std.specs.List.{sum_by}
use Rattle.std.proofs.lemmas.List.{take_all}
use Rattle.layout_roles.specs.declared.role.Role.{Role}
use Rattle.side_model.specs.Sides.{set_of}
use Rattle.layout_judge.specs.Weights.{at_most}
use Rattle.layout_judge.proofs.Weighed.{of_storage, nodes_are}
use Rattle.layout_judge.proofs.cuts.node_weight.Goals as goal

pub returns : goal.returns
returns c =
    let side = set_of c.args.side.now.vertices.now in
    let roles = c.args.roles.now in
    let all : take c.loop-role.role-index roles ≡ roles = take_all c.loop-role.role-index roles (omega arith) in
    c.loop-role.invariant ∙ ap at_most (ap (λ (xs : List Role). sum_by (of_storage side c.args.size) xs) all ∙ sym (nodes_are side c.args.size roles))
