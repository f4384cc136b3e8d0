use Rattle.world_history.specs.Checks.{stale_at, IsFirstBelow}
use Rattle.world_history.proofs.freshness.first_of.Given as goal

abbrev pub invariant-loop-i : goal.invariant-loop-i
invariant-loop-i l = IsFirstBelow (stale_at l.past.table.index.records.now) l.i l.first
