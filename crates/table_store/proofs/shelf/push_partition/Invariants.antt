use Rattle.std.proofs.Common.{◌≡◌, ◌++◌}
use Rattle.std.specs.Map.{keys_of}
use Rattle.table_store.proofs.Partitions.{walked}
use Rattle.table_store.proofs.shelf.push_partition.Given as goal

abbrev pub invariant-loop-key : goal.invariant-loop-key
invariant-loop-key g l =
    l.rows.items ++ walked l.p (keys_of l.key-iterator) l.shelf.rows.entries ≡ l.fn.rows.items ++ walked l.p (keys_of l.initial.key-iterator) l.shelf.rows.entries
