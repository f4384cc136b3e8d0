use Rattle.std.proofs.Common.{◌≤◌, take}
use Rattle.std.specs.List.{All}
use Rattle.layout_roles.specs.Zones.{capacity_of}
use Rattle.layout_size.proofs.search.greatest_capacity.Given as goal

abbrev pub invariant-loop-role : goal.invariant-loop-role
invariant-loop-role l = All (λ role. capacity_of role ≤ l.greatest) (take l.role-index l.roles)
