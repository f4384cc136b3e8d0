use Rattle.std.proofs.Common.{◌≡◌, ◌≤◌, ◌-◌, drop}
use Rattle.flow_model.specs.Says.{are_whole}
use Rattle.s3_flow.proofs.says.are_whole.Given as goal

abbrev pub invariant-loop-entry : goal.invariant-loop-entry
invariant-loop-entry l = record {
  within : l.left ≤ l.size;
  rest : are_whole (l.size - l.left) (drop l.entry-index l.entries) l.size ≡ are_whole 0 l.entries l.size;
}
