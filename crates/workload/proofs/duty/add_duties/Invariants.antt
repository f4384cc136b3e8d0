use Rattle.std.proofs.Common.{◌≡◌, ◌-◌, ◌++◌, map}
use Rattle.std.specs.List.{range_with_len}
use Rattle.workload.specs.Duties.{duty_of}
use Rattle.workload.proofs.duty.add_duties.Given as goal

abbrev pub invariant-loop-node : goal.invariant-loop-node
invariant-loop-node l = l.events ≡ l.fn.events ++ map (duty_of l.fn.duty) (range_with_len l.fn.first (l.node - l.fn.first))
