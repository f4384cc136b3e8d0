use Rattle.std.proofs.Common.{◌≡◌, ◌++◌}
use Rattle.node_parts.proofs.OpenCalls.{numbers_of}
use Rattle.node_parts.proofs.calls.Calls.lose_all.Given as goal

abbrev pub invariant-loop-number : goal.invariant-loop-number
invariant-loop-number g l =
    l.lost.items ++ numbers_of l.number-iterator ≡ numbers_of l.initial.number-iterator
