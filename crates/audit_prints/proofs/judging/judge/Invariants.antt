use Rattle.audit_prints.specs.Stages.{staged_of}
use Rattle.audit_prints.proofs.Walks.{IsWalked}
use Rattle.audit_prints.proofs.judging.judge.Given as goal

abbrev pub invariant-loop-i : goal.invariant-loop-i
invariant-loop-i l = IsWalked l.events l.saids l.i (staged_of l.stage) l.sheets
