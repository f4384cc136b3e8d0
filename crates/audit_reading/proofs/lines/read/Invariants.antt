use Rattle.std.proofs.Common.{length}
use Rattle.audit_reading.proofs.SoFar.{ReadSoFar}
use Rattle.audit_reading.proofs.lines.read.Given as goal

abbrev pub invariant-loop-rest : goal.invariant-loop-rest
invariant-loop-rest l = ReadSoFar l.events l.text l.rest l.number l.kept l.saids

abbrev pub decreases-loop-rest : goal.decreases-loop-rest
decreases-loop-rest l = length l.rest
