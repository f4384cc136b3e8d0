-- Three shelves as one table, and how the tries of a partition are brought up to its rows.
use Rattle.std.specs.Prelude.{◌≡◌, ℕ, List, [], ◌++◌, filter}
use Rattle.blake2_hash.specs.Blake2b.{blake2b}
use Rattle.table_schema.specs.Words.{Words}
use Rattle.merkle_trie.specs.declared.trie.Trie.{Trie}
use Rattle.merkle_trie.specs.Keeping.{Keeps, queued}
use Rattle.table_store.specs.declared.shelf.Shelf.{Shelf}
use Rattle.table_store.specs.Shelf.{IsSound, in_partition, shelf_rows}
use Rattle.table_store.specs.Settled.{AllFit}
use Rattle.table_store.specs.Markers.{AllMarked}

-- the rows of three shelves, and those of partition p of one
abbrev pub rows_of_all : {R : Type 0} → Shelf R → Shelf R → Shelf R → List R
rows_of_all first second third = shelf_rows first.rows.entries ++ (shelf_rows second.rows.entries ++ shelf_rows third.rows.entries)

abbrev pub rows_at : {R : Type 0} → ℕ → Shelf R → List R
rows_at p shelf = shelf_rows (filter (in_partition p) shelf.rows.entries)

-- a shelf before and after its tries took in rows that changed
pub record Settles {R : Type 0} (s : Words R) (old new : Shelf R) : Type 0 where
  pub rows : new.rows.entries ≡ old.rows.entries
  pub markers : new.markers ≡ old.markers
  pub fits : AllFit s new.index new.rows.entries

-- the three shelves hold the rows of their tables with tries that fit, and there is a trie of no row
pub record IsWhole {R H B : Type 0} (s : Words R) (first second third : Shelf R) (nothing : Trie H B) : Type 0 where
  pub sound : IsSound s first.rows.entries second.rows.entries third.rows.entries
  pub first_fits : AllFit s first.index first.rows.entries
  pub second_fits : AllFit s second.index second.rows.entries
  pub third_fits : AllFit s third.index third.rows.entries
  pub marked : AllMarked s first.markers first.rows.entries
  pub nothing_kept : Keeps (blake2b 32) nothing []
  pub nothing_queued : queued nothing ≡ 0
