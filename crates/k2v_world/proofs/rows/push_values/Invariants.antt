use Rattle.std.proofs.Common.{◌≡◌, ◌++◌, drop}
use Rattle.crdt_core.specs.Map.{map_entries}
use Rattle.k2v_model.specs.Run.{values_of}
use Rattle.k2v_world.proofs.rows.push_values.Given as goal

abbrev pub invariant-loop-entry : goal.invariant-loop-entry
invariant-loop-entry l =
    l.shown ++ values_of l.fn.node (drop l.entry-index (map_entries l.fn.writes.values)) ≡ l.initial.shown ++ values_of l.fn.node (map_entries l.fn.writes.values)
