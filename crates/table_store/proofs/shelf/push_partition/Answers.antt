use Rattle.std.specs.Prelude.{[], ◌++◌}
use Rattle.std.proofs.Common.{ap, sym, ◌∙◌, append-nil}
use Rattle.table_store.specs.Shelf.{shelf_rows}
use Rattle.std.specs.Map.{keys_of}
use Rattle.table_store.specs.Index.{entries_in}
use Rattle.table_store.proofs.Partitions.{walked, walk_is, are_there, none_in}
use Rattle.table_store.proofs.shelf.push_partition.Goals as goal

pub returns-in-None-clause-rows : goal.returns-in-None-clause-rows
returns-in-None-clause-rows g c =
    let p = c.args.p in
    let entries = c.args.shelf.now.rows.entries in
    let none = none_in p entries (are_there c.args.shelf.now.index p [] entries (ap (λ o. keys_of (entries_in o)) (sym c.in-None.ensures.value)) c.args.shelf.now.indexed) in
    sym (append-nil c.args.rows.now.items) ∙ ap (λ es. c.args.rows.now.items ++ shelf_rows es) (sym none)

pub returns-in-None-2-clause-rows : goal.returns-in-None-2-clause-rows
returns-in-None-2-clause-rows g c =
    let p = c.args.p in
    let entries = c.args.shelf.now.rows.entries in
    let given = c.into_iter-key-iterator.ensures.into_iter_gives in
    let keys = keys_of c.in-Some.part.now.pairs.entries in
    let there = are_there c.args.shelf.now.index p keys entries (ap (λ o. keys_of (entries_in o)) (sym c.in-Some.ensures.value)) c.args.shelf.now.indexed in
    let all = ap (λ es. walked p (keys_of es) entries) given.0 ∙ walk_is p keys entries c.are_in_order.ensures given.5 there in
    sym (append-nil c.loop-key.rows.items)
    ∙ (ap (λ ks. c.loop-key.rows.items ++ walked p (keys_of ks) entries) (sym c.in-None-2.ensures.steps.0)
    ∙ (c.loop-key.invariant
    ∙ ap (λ rows. c.args.rows.now.items ++ rows) all))
