use Rattle.std.proofs.Common.{◌≤◌, List, subst}
use Rattle.std.specs.List.{All}
use Rattle.layout_roles.specs.declared.role.Role.{Role}
use Rattle.layout_roles.specs.Zones.{capacity_of}
use Rattle.layout_size.proofs.Bound.{none_above}
use Rattle.layout_size.proofs.search.size_bound.Goals as goal

pub returns-clause-above : goal.returns-clause-above
returns-clause-above c = λ size above.
    let roles = c.args.roles.now in
    let greatest = c.greatest_capacity.result in
    let each : All (λ role. capacity_of role ≤ greatest) roles.list = subst (λ (xs : List Role). All (λ role. capacity_of role ≤ greatest) xs) c.as_slice.ensures c.greatest_capacity.ensures in
    none_above roles.list c.args.r size greatest roles.ascending roles.numbered each above
    (λ side cut light. c.light_cuts.ensures roles.list c.args.r size side roles.ascending c.requires.low c.requires.high cut light)
