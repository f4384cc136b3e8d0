use Rattle.std.proofs.Common.{◌≡◌, ◌≤◌, true, take}
use Rattle.std.specs.List.{All}
use Rattle.layout_roles.specs.Zones.{is_storage}
use Rattle.layout_roles.specs.Fits.{load, room}
use Rattle.layout_moves.proofs.auction.overloaded.Given as goal

abbrev pub invariant-loop-role : goal.invariant-loop-role
invariant-loop-role l = All (λ role. is_storage role ≡ true → load l.sets role.node ≤ room l.size role) (take l.role-index l.roles.list)
