use Rattle.audit_play.proofs.Ending.{Following}
use Rattle.audit_play.proofs.comparing.compare.Given as goal

abbrev pub invariant-loop-next : goal.invariant-loop-next
invariant-loop-next l = Following l.events l.text l.sheets l.store l.place l.next-index
