use Rattle.std.proofs.Common.{◌≡◌, ◌++◌, filter}
use Rattle.std.specs.Map.{keys_of}
use Rattle.table_store.specs.Notes.{is_among}
use Rattle.table_store.proofs.Partitions.{walked}
use Rattle.table_store.proofs.noted.push_noted.Given as goal

abbrev pub invariant-loop-key : goal.invariant-loop-key
invariant-loop-key g l =
    l.rows.items ++ filter (is_among g.S.Schema.words l.notes) (walked l.p (keys_of l.key-iterator) l.shelf.rows.entries)
    ≡ l.fn.rows.items ++ filter (is_among g.S.Schema.words l.notes) (walked l.p (keys_of l.initial.key-iterator) l.shelf.rows.entries)
