use Rattle.std.proofs.Common.{length}
use Rattle.schedule_text.proofs.Reading.{Reading}
use Rattle.schedule_text.proofs.schedule.parse.Given as goal

abbrev pub invariant-loop-rest : goal.invariant-loop-rest
invariant-loop-rest l = Reading l.text l.rest l.number l.events

abbrev pub decreases-loop-rest : goal.decreases-loop-rest
decreases-loop-rest l = length l.rest
