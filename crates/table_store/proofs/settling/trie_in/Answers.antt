use Rattle.std.specs.Prelude.{[], map}
use Rattle.std.proofs.Common.{ap, sym, subst}
use Rattle.std.specs.Map.{keys_of}
use Rattle.blake2_hash.specs.Blake2b.{blake2b}
use Rattle.table_model.specs.Top.{pair_of}
use Rattle.merkle_trie.specs.Keeping.{Keeps}
use Rattle.table_store.specs.Index.{entries_in}
use Rattle.table_store.specs.Shelf.{shelf_rows}
use Rattle.table_store.proofs.Partitions.{are_there, none_in}
use Rattle.table_store.proofs.Settled.{trie_keeps}
use Rattle.table_store.proofs.settling.trie_in.Goals as goal

pub returns-in-Some-clause-keeps : goal.returns-in-Some-clause-keeps
returns-in-Some-clause-keeps g c =
    let p = c.args.p in
    let entries = c.args.shelf.now.rows.entries in
    let part = c.in-Some.part.now in
    let found = sym c.in-Some.ensures.value in
    trie_keeps g.S.Schema.words p entries part (c.requires.fits p part found) (c.requires.settled part found) c.are_in_order.ensures c.len.ensures.ordered
    (are_there c.args.shelf.now.index p (keys_of part.pairs.entries) entries (ap (λ o. keys_of (entries_in o)) found) c.args.shelf.now.indexed)
    c.args.table c.requires.placed

pub returns-in-None-clause-keeps : goal.returns-in-None-clause-keeps
returns-in-None-clause-keeps g c =
    let p = c.args.p in
    let entries = c.args.shelf.now.rows.entries in
    let none = none_in p entries (are_there c.args.shelf.now.index p [] entries (ap (λ o. keys_of (entries_in o)) (sym c.in-None.ensures.value)) c.args.shelf.now.indexed) in
    subst (λ es. Keeps (blake2b 32) c.args.nothing.now (map (pair_of g.S.Schema.words) (shelf_rows es))) (sym none) c.requires.nothing
