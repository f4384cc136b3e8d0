use Rattle.std.proofs.Common.{◌≡◌, ◌++◌, map}
use Rattle.table_model.specs.Top.{any_unspelled}
use Rattle.table_store.specs.Shelf.{shelf_rows}
use Rattle.table_store.specs.Pairs.{tagged, entry_pair}
use Rattle.table_store.proofs.roots.hashes_of.Given as goal

abbrev pub invariant-loop-key : goal.invariant-loop-key
invariant-loop-key g l = record {
  hashes_are : map tagged l.hashes.items ++ map (λ e. (e.1.partition, entry_pair g.S.Schema.words e)) l.key-iterator ≡ map (λ e. (e.1.partition, entry_pair g.S.Schema.words e)) l.shelf.rows.entries;
  unspelled_is : any_unspelled g.S.Schema.words (shelf_rows l.key-iterator) ≡ any_unspelled g.S.Schema.words (shelf_rows l.shelf.rows.entries);
}
