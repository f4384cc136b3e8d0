use Rattle.std.proofs.Common.{take}
use Rattle.layout_judge.specs.Marks.{Marks}
use Rattle.layout_judge.proofs.marks.Marked.new.Given as goal

abbrev pub invariant-loop-vertex : goal.invariant-loop-vertex
invariant-loop-vertex l = Marks l.table (take l.vertex-index l.vertices)
