use Rattle.std.proofs.Common.{◌≡◌, ◌++◌, replicate}
use Rattle.audit_prints.proofs.sets.add_run.Given as goal

abbrev pub invariant-loop : goal.invariant-loop
invariant-loop l = l.sets ≡ l.fn.sets ++ replicate l.counter l.set
