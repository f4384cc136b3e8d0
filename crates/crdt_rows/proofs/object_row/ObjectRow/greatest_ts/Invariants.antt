use Rattle.std.proofs.Common.{◌≡◌, max, drop}
use Rattle.crdt_core.specs.Map.{map_entries}
use Rattle.crdt_rows.specs.Versions.{greatest_ts}
use Rattle.crdt_rows.proofs.object_row.ObjectRow.greatest_ts.Given as goal

-- what was seen and what is left have the greatest of all
abbrev pub invariant-loop-version : goal.invariant-loop-version
invariant-loop-version l = max l.greatest (greatest_ts (drop l.version-index l.version-items)) ≡ greatest_ts (map_entries l.fn.self.versions)
