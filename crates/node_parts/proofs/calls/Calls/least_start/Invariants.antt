use Rattle.std.proofs.Common.{◌≡◌}
use Rattle.node_parts.proofs.OpenCalls.{least_of}
use Rattle.node_parts.proofs.calls.Calls.least_start.Given as goal

abbrev pub invariant-loop-call : goal.invariant-loop-call
invariant-loop-call g l =
    least_of l.least l.call-iterator ≡ least_of l.initial.least l.initial.call-iterator
