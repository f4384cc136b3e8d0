use Rattle.std.proofs.Common.{◌≡◌, ◌++◌}
use Rattle.flow_model.specs.Says.{shown_rows}
use Rattle.s3_flow.proofs.says.take_shown.Given as goal

abbrev pub invariant-loop-row : goal.invariant-loop-row
invariant-loop-row l = l.rows ++ shown_rows l.row-iterator.rest.items ≡ l.initial.rows ++ shown_rows l.fn.others
