use Rattle.world_history.proofs.Upto.{NewestUpto}
use Rattle.world_history.proofs.latest.newest_upto.Given as goal

abbrev pub invariant-loop-k : goal.invariant-loop-k
invariant-loop-k l = NewestUpto l.table.index.records.now l.rows l.k l.all.items l.newest
