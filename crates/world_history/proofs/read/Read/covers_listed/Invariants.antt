use Rattle.std.proofs.Common.{◌≤◌, ◌-◌, length}
use Rattle.world_history.proofs.Listed.{NoneBefore, CoversBelow}
use Rattle.world_history.proofs.read.Read.covers_listed.Given as goal

-- each named key of the rows so far is covered, and none that is named stands before the others
abbrev pub invariant-loop-rows : goal.invariant-loop-rows
invariant-loop-rows l = record {
  upto : l.k ≤ length l.rows;
  none : NoneBefore l.rows l.self.bucket.now l.self.key.now l.k;
  covers : CoversBelow l.past.table.index.records.now l.rows l.self.began l.self.finished l.self.bucket.now l.self.key.now l.self.answer.now l.k;
}

abbrev pub decreases-loop-rows : goal.decreases-loop-rows
decreases-loop-rows l = length l.rows - l.k
