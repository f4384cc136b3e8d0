use Rattle.layout_judge.proofs.Marking.{none_marked}
use Rattle.layout_judge.proofs.marks.Marked.new.Goals as goal

pub loop-vertex-init : goal.loop-vertex-init
loop-vertex-init c = none_marked
