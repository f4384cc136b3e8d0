use Rattle.std.proofs.Common.{◌≡◌, ◌++◌, drop, map}
use Rattle.change_deeds.proofs.members.nodes_of.Given as goal

abbrev pub invariant-loop-role : goal.invariant-loop-role
invariant-loop-role l = l.nodes ++ map (λ role. role.node) (drop l.role-index l.roles) ≡ map (λ role. role.node) l.roles
