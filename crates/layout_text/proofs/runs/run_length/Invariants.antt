use Rattle.layout_text.proofs.FirstRun.{IsRunning}
use Rattle.layout_text.proofs.runs.run_length.Given as goal

abbrev pub invariant-loop-i : goal.invariant-loop-i
invariant-loop-i g l = IsRunning g.T.PartialEq.eq l.values l.i
