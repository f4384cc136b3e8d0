-- The roots of the rows of each table and partition, and the hash over all of them.
use Rattle.std.specs.Prelude.{ℕ, ◌==◌, Bool, List, [], ◌++◌, map, filter, is_none, unwrap_or}
use Rattle.std.specs.List.{concat, list_any}
use Rattle.blake2_hash.specs.Blake2b.{blake2b}
use Rattle.table_schema.specs.Words.{Words}
use Rattle.table_model.specs.Rows.{rows_in}
use Rattle.table_model.specs.Root.{Pair, every_byte, root}

module _ {R : Type 0} (s : Words R) where
  -- some row has no bytes
  abbrev pub any_unspelled : List R → Bool
  any_unspelled rows = list_any (λ r. is_none (s.spelling r)) rows

  -- the hashes of a row's key and of its bytes
  abbrev pub pair_of : R → Pair
  pair_of r = (blake2b 32 (s.key r), blake2b 32 (unwrap_or (s.spelling r) []))

  -- those of the rows of one table and partition
  abbrev pub pairs_of : ℕ → ℕ → List R → List Pair
  pairs_of table p rows = map pair_of (filter (λ r. s.table r == table) (rows_in s p rows))

  -- the root over one partition of one table
  abbrev pub root_of : ℕ → ℕ → List R → List ℕ
  root_of table p rows = root (blake2b 32) (pairs_of table p rows)

  -- the 256 roots of a table, by partition
  abbrev pub table_roots : ℕ → List R → List (List ℕ)
  table_roots table rows = map (λ p. root_of table p rows) every_byte

  -- the 768 roots, those of table 1 first
  abbrev pub roots : List R → List (List ℕ)
  roots rows = table_roots 1 rows ++ table_roots 2 rows ++ table_roots 3 rows

  -- the hash over all roots
  abbrev pub top : List R → List ℕ
  top rows = blake2b 32 (concat (roots rows))
