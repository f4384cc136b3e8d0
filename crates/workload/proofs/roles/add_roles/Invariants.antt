use Rattle.std.proofs.Common.{◌≡◌, ◌-◌, ◌++◌, map}
use Rattle.std.specs.List.{range_with_len}
use Rattle.workload.specs.Change.{role_of}
use Rattle.workload.proofs.roles.add_roles.Given as goal

abbrev pub invariant-loop-node : goal.invariant-loop-node
invariant-loop-node l = l.events ≡ l.fn.events ++ map (role_of l.fn.j) (range_with_len 1 (l.node - 1))
