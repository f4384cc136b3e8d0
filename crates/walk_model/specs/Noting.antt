-- The rows of a walk: of which tables there are some, and those of the key hashes that were noted.
use Rattle.std.specs.Prelude.{ℕ, ◌==◌, ◌&&◌, nat_eq, Bool, List, [], ◌∷◌, filter}
use Rattle.std.specs.List.{list_any}
use Rattle.std.specs.Cmp.Lexicographic.{pointwise}
use Rattle.blake2_hash.specs.Blake2b.{blake2b}
use Rattle.blake2_hash.specs.declared.digest.Hash32.{Hash32}
use Rattle.table_schema.specs.Words.{Words}

module _ {R : Type 0} (s : Words R) where
  -- some row is of this table
  abbrev pub has_table : ℕ → List R → Bool
  has_table table rows = list_any (λ r. s.table r == table) rows

  -- the tables of which there are rows
  abbrev pub tables_of : List R → List ℕ
  tables_of rows = filter (λ table. has_table table rows) (1 ∷ 2 ∷ 3 ∷ [])

  -- the row is that of one of these tables and key hashes
  abbrev pub is_noted : List (ℕ × Hash32) → R → Bool
  is_noted keys r = list_any (λ key. (key.0 == s.table r) && pointwise nat_eq key.1.0 (blake2b 32 (s.key r))) keys
