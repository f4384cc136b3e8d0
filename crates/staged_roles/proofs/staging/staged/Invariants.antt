use Rattle.std.proofs.Common.{◌≡◌, [], ◌++◌, take}
use Rattle.cluster_machine.specs.World.{new_role}
use Rattle.staged_roles.proofs.StagedList.{below, above}
use Rattle.staged_roles.proofs.staging.staged.Given as goal

abbrev pub invariant-loop-other : goal.invariant-loop-other
invariant-loop-other l = record { list : l.list ≡ below l.node (take l.other-index l.others); role : l.role ≡ l.fn.role }

abbrev pub invariant-loop-other-2 : goal.invariant-loop-other-2
invariant-loop-other-2 l = l.list ≡ (below l.node l.others ++ new_role l.node l.fn.role []) ++ above l.node (take l.other-index l.others)
