use Rattle.std.proofs.Common.{arith, refl, nat_eq, ◌+◌, ◌++◌}
use Rattle.std.specs.Cmp.Lexicographic.{pointwise}
use Rattle.std.proofs.lemmas.List.{length-drop}
use Rattle.layout_command.specs.Moves.{partition_line}
use Rattle.layout_text.proofs.FirstRun.{rest_text, text_more}
use Rattle.layout_command.proofs.potentials.append_runs.Goals as goal

pub loop-first-preserved : goal.loop-first-preserved
loop-first-preserved c = record {
  within = omega (arith, c.run_length.ensures.within, length-drop c.loop-first.first c.args.words.now);
  text =
      text_more (pointwise nat_eq) partition_line c.args.words.now (c.args.out.now ++ rest_text (pointwise nat_eq) partition_line c.args.words.now 0) c.loop-first.out c.append_line.new.out c.loop-first.first c.run_length.result
      (c.loop-first.first + c.run_length.result) c.index-words-first.result refl c.run_length.ensures.first c.loop-first-test.true c.index-words-first.is c.loop-first.invariant.text (rw c.as_slice.ensures at c.in_ok-append_line.ensures.ok);
}
