use Rattle.std.proofs.Common.{◌≡◌, drop}
use Rattle.audit_model.specs.Printed.{sets_from}
use Rattle.audit_prints.specs.Sets.{with_lines}
use Rattle.audit_prints.proofs.sets.sets_in.Given as goal

abbrev pub invariant-loop-said : goal.invariant-loop-said
invariant-loop-said l = with_lines l.sets (drop l.said-index l.saids) ≡ sets_from 0 l.saids
