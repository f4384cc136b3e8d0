use Rattle.std.proofs.Common.{◌≡◌, ◌≤◌, ◌-◌, ◌++◌, length, nat_eq}
use Rattle.std.specs.Cmp.Lexicographic.{pointwise}
use Rattle.layout_command.specs.Moves.{partition_line}
use Rattle.layout_text.proofs.FirstRun.{rest_text}
use Rattle.layout_command.proofs.potentials.append_runs.Given as goal

abbrev pub invariant-loop-first : goal.invariant-loop-first
invariant-loop-first l = record {
  within : l.first ≤ length l.words;
  text : l.out ++ rest_text (pointwise nat_eq) partition_line l.words l.first ≡ l.fn.out ++ rest_text (pointwise nat_eq) partition_line l.words 0;
}

abbrev pub decreases-loop-first : goal.decreases-loop-first
decreases-loop-first l = length l.words - l.first
