use Rattle.std.specs.Prelude.{[]}
use Rattle.std.proofs.Common.{ap, sym, ◌∙◌}
use Rattle.std.specs.Map.{keys_of}
use Rattle.table_store.specs.Index.{entries_in}
use Rattle.table_store.specs.Shelf.{shelf_rows}
use Rattle.table_store.proofs.NotedRows.{any_row, any_rows, found_some}
use Rattle.table_store.proofs.Partitions.{walk_is, are_there, none_in}
use Rattle.table_store.proofs.noted.has_rows.Goals as goal

pub returns-in-None : goal.returns-in-None
returns-in-None g c =
    let p = c.args.p in
    let entries = c.args.shelf.now.rows.entries in
    let none = none_in p entries (are_there c.args.shelf.now.index p [] entries (ap (λ o. keys_of (entries_in o)) (sym c.in-None.ensures.value)) c.args.shelf.now.indexed) in
    sym (ap (λ es. any_row (shelf_rows es)) none) ∙ any_rows p entries

pub returns-in-Some : goal.returns-in-Some
returns-in-Some g c =
    let p = c.args.p in
    let entries = c.args.shelf.now.rows.entries in
    let keys = keys_of c.in-Some.part.now.pairs.entries in
    let there = are_there c.args.shelf.now.index p keys entries (ap (λ o. keys_of (entries_in o)) (sym c.in-Some.ensures.value)) c.args.shelf.now.indexed in
    c.has_row_of.ensures ∙ found_some p entries keys (walk_is p keys entries c.are_in_order.ensures c.len.ensures.ordered there)
