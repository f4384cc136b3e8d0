use Rattle.std.proofs.Common.{◌≡◌, ◌≤◌, ◌++◌, length}
use Rattle.table_store.specs.Shelf.{shelf_rows, begins, leading}
use Rattle.table_store.proofs.window.first_rows.Given as goal

abbrev pub invariant-loop-key : goal.invariant-loop-key
invariant-loop-key g l = record {
  within : length l.rows.items ≤ l.limit;
  rows_are : l.rows.items ++ shelf_rows (leading (begins l.prefix) l.key-iterator) ≡ shelf_rows (leading (begins l.prefix) l.fn.entries);
}
