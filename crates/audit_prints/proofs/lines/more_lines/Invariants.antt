use Rattle.std.proofs.Common.{◌≡◌, ◌++◌, take, drop}
use Rattle.audit_model.specs.Printed.{more_lines}
use Rattle.audit_prints.proofs.lines.more_lines.Given as goal

abbrev pub invariant-loop-i : goal.invariant-loop-i
invariant-loop-i l = more_lines l.saids ≡ take l.i l.saids ++ more_lines (drop l.i l.saids)
