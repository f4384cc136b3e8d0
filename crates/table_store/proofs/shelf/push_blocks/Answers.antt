use Rattle.std.specs.Prelude.{[], ◌++◌, map}
use Rattle.std.proofs.Common.{ap, sym, ◌∙◌, append-nil}
use Rattle.table_model.specs.Rows.{live_blocks}
use Rattle.table_store.specs.Shelf.{shelf_rows}
use Rattle.std.specs.Map.{keys_of}
use Rattle.table_store.specs.Index.{entries_in}
use Rattle.table_store.proofs.Partitions.{walked, walk_is, are_there, none_in}
use Rattle.table_store.proofs.shelf.push_blocks.Goals as goal

pub returns-in-None-clause-hashes : goal.returns-in-None-clause-hashes
returns-in-None-clause-hashes g c =
    let p = c.args.p in
    let entries = c.args.shelf.now.rows.entries in
    let told = map (λ hash. hash.0) c.args.hashes.now.items in
    let none = none_in p entries (are_there c.args.shelf.now.index p [] entries (ap (λ o. keys_of (entries_in o)) (sym c.in-None.ensures.value)) c.args.shelf.now.indexed) in
    sym (append-nil told) ∙ ap (λ es. told ++ live_blocks g.S.Schema.words (shelf_rows es)) (sym none)

pub returns-in-None-2-clause-hashes : goal.returns-in-None-2-clause-hashes
returns-in-None-2-clause-hashes g c =
    let p = c.args.p in
    let entries = c.args.shelf.now.rows.entries in
    let given = c.into_iter-key-iterator.ensures.into_iter_gives in
    let keys = keys_of c.in-Some.part.now.pairs.entries in
    let told = map (λ hash. hash.0) c.loop-key.hashes.items in
    let there = are_there c.args.shelf.now.index p keys entries (ap (λ o. keys_of (entries_in o)) (sym c.in-Some.ensures.value)) c.args.shelf.now.indexed in
    let all = ap (λ es. walked p (keys_of es) entries) given.0 ∙ walk_is p keys entries c.are_in_order.ensures given.5 there in
    sym (append-nil told)
    ∙ (ap (λ ks. told ++ live_blocks g.S.Schema.words (walked p (keys_of ks) entries)) (sym c.in-None-2.ensures.steps.0)
    ∙ (c.loop-key.invariant
    ∙ ap (λ rows. map (λ hash. hash.0) c.args.hashes.now.items ++ live_blocks g.S.Schema.words rows) all))
