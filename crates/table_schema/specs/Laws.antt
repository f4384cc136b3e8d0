-- What every schema keeps.
use Rattle.std.specs.Prelude.{◌≡◌, ◌≤◌, ◌<◌, ◌↔◌, ℕ, List, Some, None, length, IsTrue}
use Rattle.std.specs.List.{Contains}
use Rattle.table_schema.specs.Words.{Words, partition_of}

-- two rows of one table and key
pub record Same {R : Type 0} (s : Words R) (a b : R) : Type 0 where
  pub first_proper : IsTrue (s.is_proper a)
  pub second_proper : IsTrue (s.is_proper b)
  pub table : s.table a ≡ s.table b
  pub key : s.key a ≡ s.key b

-- what a schema keeps: one spelling a row, a place that merges don't change, and a block that is needed only while both rows need it
pub record Laws {R : Type 0} (join : R → R → R) (s : Words R) : Type 0 where
  -- a row has one spelling, and these bytes are read as this row
  pub reads_back : (r : R) (bytes : List ℕ) → (s.read bytes ≡ Some r) ↔ (s.spelling r ≡ Some bytes)
  pub spelled_is_proper : (r : R) (bytes : List ℕ) → s.spelling r ≡ Some bytes → IsTrue (s.is_proper r)
  pub table_is_first_to_third : (r : R) → IsTrue (s.is_proper r) → (1 ≤ s.table r) × (s.table r ≤ 3)
  pub position_is_32_bytes : (r : R) → IsTrue (s.is_proper r) → length (s.position r) ≡ 32
  pub partition_is_byte : (r : R) → IsTrue (s.is_proper r) → partition_of s r < 256
  pub one_position : (a b : R) → Same s a b → s.position a ≡ s.position b
  -- merging two rows of one table and key gives a row of that table and key
  pub joined_is_proper : (a b : R) → Same s a b → IsTrue (s.is_proper (join a b))
  pub joined_table : (a b : R) → Same s a b → s.table (join a b) ≡ s.table a
  pub joined_key : (a b : R) → Same s a b → s.key (join a b) ≡ s.key a
  -- a block that the merged row needs both rows need
  pub joined_block : (a b : R) (hash : List ℕ) → Same s a b → s.live_block (join a b) ≡ Some hash → (s.live_block a ≡ Some hash) × (s.live_block b ≡ Some hash)
  pub triggered_has_no_block : (old new r : R) → Contains (s.triggered old new) r → s.live_block r ≡ None
  pub marked_is_object : (r : R) (version : ℕ × ℕ) → s.marker r ≡ Some version → s.table r ≡ 1
  pub marked_has_no_block : (r : R) (version : ℕ × ℕ) → s.marker r ≡ Some version → s.live_block r ≡ None
