use Rattle.world_history.specs.Table.{ack_at}
use Rattle.world_history.proofs.Table.{AddedUp}
use Rattle.world_history.proofs.rows.all_rows.Given as goal

abbrev pub invariant-loop-place : goal.invariant-loop-place
invariant-loop-place l = AddedUp (ack_at l.index.records.now) l.place l.rows.items
