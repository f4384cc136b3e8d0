use Rattle.std.proofs.Common.{◌≡◌, filter}
use Rattle.std.specs.Map.{keys_of}
use Rattle.table_store.specs.Markers.{AllMarked}
use Rattle.table_store.proofs.Partitions.{kept_of}
use Rattle.table_store.proofs.shelf.drop_keys.Given as goal

abbrev pub invariant-loop-key : goal.invariant-loop-key
invariant-loop-key g l = record {
  rows_are : filter (kept_of l.p (keys_of l.key-iterator)) l.rows.entries ≡ filter (kept_of l.p (keys_of l.initial.key-iterator)) l.fn.rows.entries;
  marked_are : AllMarked g.S.Schema.words l.fn.markers l.fn.rows.entries → AllMarked g.S.Schema.words l.markers l.rows.entries;
}
