use Rattle.std.proofs.Common.{◌≡◌, take}
use Rattle.layout_roles.proofs.roles.Roles.copy.Given as goal

abbrev pub invariant-loop-role : goal.invariant-loop-role
invariant-loop-role l = l.list ≡ take l.role-index l.roles
