use Rattle.std.proofs.Common.{◌≡◌, map}
use Rattle.std.specs.List.{range_with_len}
use Rattle.layout_flow.specs.Closed.{column}
use Rattle.layout_flow.proofs.rows.sets_of.Given as goal

abbrev pub invariant-loop-p : goal.invariant-loop-p
invariant-loop-p l = l.sets ≡ map (column l.count l.copies) (range_with_len 0 l.p)
