use Rattle.std.proofs.Common.{◌≡◌, ◌≤◌, ◌-◌, length, take}
use Rattle.std.specs.List.{sum_by}
use Rattle.world_history.specs.Table.{one_if, is_listed_before}
use Rattle.world_history.proofs.Listed.{NoneBefore}
use Rattle.world_history.proofs.pair_count.writes_under.Given as goal

-- the rows so far are counted, and none that is named stands before the others
abbrev pub invariant-loop-rows : goal.invariant-loop-rows
invariant-loop-rows l = record {
  upto : l.k ≤ length l.rows;
  none : NoneBefore l.rows l.bucket l.prefix l.k;
  counted : sum_by (λ r. one_if (is_listed_before l.bucket l.prefix l.i r)) (take l.k l.rows) ≡ l.count;
  small : l.count ≤ l.k;
}

abbrev pub decreases-loop-rows : goal.decreases-loop-rows
decreases-loop-rows l = length l.rows - l.k
