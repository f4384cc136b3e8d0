use Rattle.std.proofs.Common.{◌≡◌, ◌++◌, drop}
use Rattle.flow_model.specs.Says.{blocks_in}
use Rattle.s3_flow.proofs.says.blocks_in.Given as goal

abbrev pub invariant-loop-entry : goal.invariant-loop-entry
invariant-loop-entry l = l.blocks ++ blocks_in (drop l.entry-index l.entries) ≡ blocks_in l.entries
