use Rattle.world_history.proofs.Sought.{NoneDeletes}
use Rattle.world_history.proofs.past.Past.is_deleted.Given as goal

-- no later row passes
abbrev pub invariant-loop-k : goal.invariant-loop-k
invariant-loop-k l = NoneDeletes l.self.table.index.records.now l.deletes l.bucket l.key l.w l.k l.high
