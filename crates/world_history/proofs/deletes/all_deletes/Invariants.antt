use Rattle.world_history.specs.Table.{delete_at}
use Rattle.world_history.proofs.Table.{AddedUp}
use Rattle.world_history.proofs.deletes.all_deletes.Given as goal

abbrev pub invariant-loop-place : goal.invariant-loop-place
invariant-loop-place l = AddedUp (delete_at l.index.records.now) l.place l.rows.items
