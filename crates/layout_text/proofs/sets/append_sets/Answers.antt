use Rattle.std.proofs.Common.{arith, refl, nat_eq, get_or, [], ◌+◌, ◌++◌}
use Rattle.std.specs.Cmp.Lexicographic.{pointwise}
use Rattle.std.proofs.lemmas.List.{length-drop}
use Rattle.layout_roles.specs.Text.{set_line}
use Rattle.layout_text.proofs.FirstRun.{rest_text, text_more, get_or_any}
use Rattle.layout_text.proofs.sets.append_sets.Goals as goal

pub loop-first-preserved : goal.loop-first-preserved
loop-first-preserved c = record {
  within = omega (arith, c.run_length.ensures.within, length-drop c.loop-first.first c.args.sets.now);
  text =
      text_more (pointwise nat_eq) set_line c.args.sets.now (c.args.out.now ++ rest_text (pointwise nat_eq) set_line c.args.sets.now 0) c.loop-first.out c.append_set.new.out c.loop-first.first c.run_length.result
      (c.loop-first.first + c.run_length.result) (get_or c.args.sets.now c.loop-first.first []) refl c.run_length.ensures.first c.loop-first-test.true (get_or_any c.args.sets.now c.loop-first.first [] c.loop-first-test.true) c.loop-first.invariant.text c.in_ok-append_set.ensures.ok;
}
