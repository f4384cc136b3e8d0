use Rattle.std.proofs.Common.{◌≡◌, ◌++◌, drop}
use Rattle.crdt_core.specs.Map.{map_entries}
use Rattle.k2v_model.specs.Run.{values_in}
use Rattle.k2v_world.proofs.rows.values_shown.Given as goal

abbrev pub invariant-loop-entry : goal.invariant-loop-entry
invariant-loop-entry l = l.shown ++ values_in (drop l.entry-index (map_entries l.fn.row.entries)) ≡ values_in (map_entries l.fn.row.entries)
