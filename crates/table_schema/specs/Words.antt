-- What a schema says of its rows.
use Rattle.std.specs.Prelude.{ℕ, Bool, List, Option, slice_index}

-- the functions of a schema over rows R
pub record Words (R : Type 0) : Type 0 where
  pub is_proper : R → Bool  -- what the row's table, position and key are made of fits its types
  pub table : R → ℕ
  pub position : R → List ℕ  -- 32 bytes
  pub key : R → List ℕ
  pub is_tombstone : R → Bool
  pub live_block : R → Option (List ℕ)  -- the hash of the block that the row needs
  pub marker : R → Option (ℕ × ℕ)  -- timestamp and identifier of the row's only version, a delete marker
  pub triggered : R → R → List R  -- the rows that a row's change, from the first to the second, calls for, in order
  pub spelling : R → Option (List ℕ)  -- the row's bytes; none where a length, a count or a number is too great for them
  pub read : List ℕ → Option R  -- the row that has these bytes

-- the partition of a row is the first byte of its position
abbrev pub partition_at : List ℕ → ℕ
partition_at position = slice_index position 0

-- the partition that a row belongs to
abbrev pub partition_of : {R : Type 0} → Words R → R → ℕ
partition_of s r = partition_at (s.position r)
