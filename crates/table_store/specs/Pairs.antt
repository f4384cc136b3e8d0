-- The pairs of hashes as code keeps them, and the roots of one shelf.
use Rattle.std.specs.Prelude.{ℕ, List, [], map, filter, flat_map, unwrap_or, Vec}
use Rattle.blake2_hash.specs.Blake2b.{blake2b}
use Rattle.blake2_hash.specs.declared.digest.Hash32.{Hash32}
use Rattle.table_schema.specs.Words.{Words}
use Rattle.table_model.specs.Root.{Pair, every_byte, root}
use Rattle.table_store.specs.declared.shelf.Placed.{Placed}
use Rattle.table_store.specs.declared.roots.Hashed.{Hashed}
use Rattle.table_store.specs.Index.{shown_pair}
use Rattle.table_store.specs.Shelf.{in_partition}

-- the pairs of hashes as bytes
abbrev pub shown : List (Hash32 × Hash32) → List Pair
shown pairs = map shown_pair pairs

-- a pair with the partition that it belongs to
abbrev pub tagged : Hashed → ℕ × Pair
tagged h = (h.partition, shown_pair h.pair)

module _ {R Z : Type 0} (s : Words R) where
  -- a row's pair: the hashes of its key and of its bytes
  abbrev pub entry_pair : Vec ℕ Z × Placed R → Pair
  entry_pair e = (blake2b 32 e.0.items, blake2b 32 (unwrap_or (s.spelling e.1.row) []))

  -- the bytes of the roots of all partitions
  abbrev pub shelf_roots : List (Vec ℕ Z × Placed R) → List ℕ
  shelf_roots es = flat_map (λ p. root (blake2b 32) (map entry_pair (filter (in_partition p) es))) every_byte
