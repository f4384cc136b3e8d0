use Rattle.std.proofs.Common.{◌-◌, length}
use Rattle.audit_run.specs.Scanned.{IsScanned}
use Rattle.audit_run.proofs.parts.mark.Given as goal

abbrev pub invariant-loop-at : goal.invariant-loop-at
invariant-loop-at l = IsScanned l.text l.at

abbrev pub decreases-loop-at : goal.decreases-loop-at
decreases-loop-at l = length l.text - l.at
