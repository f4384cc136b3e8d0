use Rattle.std.proofs.Common.{◌≡◌, ◌^◌, ◌-◌, min}
use Rattle.history_model.specs.Pairs.{sum_below}
use Rattle.world_history.specs.Checks.{owed}
use Rattle.world_history.proofs.pair_count.pairs_of.Given as goal

abbrev pub invariant-loop-i : goal.invariant-loop-i
invariant-loop-i l = l.total ≡ min (sum_below (owed l.table.index.records.now) l.i) (2 ^ 64 - 1)
