use Rattle.std.proofs.Common.{◌≡◌, ◌≤◌, ◌-◌, ◌++◌, length, nat_eq}
use Rattle.std.specs.Cmp.Lexicographic.{pointwise}
use Rattle.layout_roles.specs.Text.{set_line}
use Rattle.layout_text.proofs.FirstRun.{rest_text}
use Rattle.layout_text.proofs.sets.append_sets.Given as goal

abbrev pub invariant-loop-first : goal.invariant-loop-first
invariant-loop-first l = record {
  within : l.first ≤ length l.sets;
  text : l.out ++ rest_text (pointwise nat_eq) set_line l.sets l.first ≡ l.fn.out ++ rest_text (pointwise nat_eq) set_line l.sets 0;
}

abbrev pub decreases-loop-first : goal.decreases-loop-first
decreases-loop-first l = length l.sets - l.first
