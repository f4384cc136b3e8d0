use Rattle.std.proofs.Common.{◌≡◌, ◌++◌}
use Rattle.k2v_model.specs.Run.{cluster_lines}
use Rattle.k2v_world.proofs.told.cluster_lines.Given as goal

abbrev pub invariant-loop-line : goal.invariant-loop-line
invariant-loop-line l = l.all ++ cluster_lines l.line-iterator.rest.items ≡ cluster_lines l.fn.lines
