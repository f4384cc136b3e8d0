use Rattle.std.proofs.Common.{◌≡◌, is_some}
use Rattle.std.specs.List.{list_any}
use Rattle.std.specs.Map.{keys_of}
use Rattle.table_store.specs.Shelf.{row_in}
use Rattle.table_store.proofs.noted.has_row_of.Given as goal

abbrev pub invariant-loop-key : goal.invariant-loop-key
invariant-loop-key g l =
    list_any (λ k. is_some (row_in l.p k.items l.rows.entries)) (keys_of l.key-iterator) ≡ list_any (λ k. is_some (row_in l.p k.items l.rows.entries)) (keys_of l.initial.key-iterator)
