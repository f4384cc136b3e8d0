use Rattle.std.proofs.Common.{length}
use Rattle.k2v_lines.proofs.Reading.{Reading}
use Rattle.k2v_lines.proofs.schedule.parse_items.Given as goal

abbrev pub invariant-loop-rest : goal.invariant-loop-rest
invariant-loop-rest l = Reading l.text l.rest l.number l.events

abbrev pub decreases-loop-rest : goal.decreases-loop-rest
decreases-loop-rest l = length l.rest
