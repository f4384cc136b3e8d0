use Rattle.std.proofs.Common.{◌≡◌, Some, [], option_and_then, length, sym, subst}
use Rattle.toml.specs.Data.{as_table}
use Rattle.toml.specs.View.{view, items_view}
use Rattle.layout_text.specs.Old.{run_from, sets_of}
use Rattle.layout_text.proofs.OldRuns.{ascending_more, rest_more}
use Rattle.layout_text.proofs.old.sets.Goals as goal

pub loop-value-preserved : goal.loop-value-preserved
loop-value-preserved c =
    let run = c.in-Some.run' in
    let found : option_and_then (run_from (length c.loop-value.sets)) (as_table (view c.value-item.result)) ≡ Some run =
    subst (λ n. option_and_then (run_from n) (as_table (view c.value-item.result)) ≡ Some run) c.len.ensures (sym c.in-Some.ensures.run) in
    record {
      ascending = rw c.in_ok-add_run-in-Some.ensures.ok (ascending_more c.loop-value.sets run c.loop-value.invariant.ascending c.in-Some.ensures.ascends);
      rest = rw c.in_ok-add_run-in-Some.ensures.ok
          (rest_more c.args.values.now c.loop-value.value-index c.value-item.result c.loop-value.sets run (sets_of [] (items_view c.args.values.now)) c.loop-value-test.true c.value-item.is found c.loop-value.invariant.rest);
    }
