-- What the tries of one table have of its rows.
use Rattle.std.specs.Prelude.{◌≡◌, ◌⊎◌, ℕ, true, false, List, [], Option, Some, Vec, is_none, is_some, option_map, unwrap_or}
use Rattle.std.specs.Map.{keys_of}
use Rattle.std.specs.BTreeMap.{BTreeMap, get}
use Rattle.std.specs.Ordering.{nat_cmp}
use Rattle.blake2_hash.specs.Blake2b.{blake2b}
use Rattle.blake2_hash.specs.declared.digest.Hash32.{Hash32}
use Rattle.table_schema.specs.Words.{Words}
use Rattle.merkle_trie.specs.Keeping.{queued}
use Rattle.table_store.specs.declared.shelf.Placed.{Placed}
use Rattle.table_store.specs.declared.index.Part.{Part}
use Rattle.table_store.specs.Index.{IsKept, has_key, pair_at, shown_pair, waits}
use Rattle.table_store.specs.Shelf.{row_in}

-- nothing of the partition waits
pub record IsSettled (part : Part) : Type 0 where
  pub none_waits : part.waiting.keys ≡ []
  pub none_queued : queued part.trie ≡ 0

-- nothing of partition p waits
abbrev pub IsSettledAt : BTreeMap ℕ Part → ℕ → Type 0
IsSettledAt index p = (part : Part) → get nat_cmp index p ≡ Some part → IsSettled part

module _ {R : Type 0} (s : Words R) where
  -- the row has bytes, and this is the pair of its key's hash and theirs
  pub record IsTaken (key : List ℕ) (row : R) (pair : Option (Hash32 × Hash32)) : Type 0 where
    pub written : is_none (s.spelling row) ≡ false
    pub pair_is : option_map shown_pair pair ≡ Some (blake2b 32 key, blake2b 32 (unwrap_or (s.spelling row) []))

  -- the row waits, or the trie has it as it is
  abbrev pub IsFollowed : Part → List ℕ → R → Type 0
  IsFollowed part key row = (waits key part ≡ true) ⊎ IsTaken key row (pair_at key part.pairs.entries)

  module _ {Z : Type 0} (p : ℕ) (rows : List (Vec ℕ Z × Placed R)) where
    -- what is known is known of rows that are there, and of each row, unless it waits, as it is
    pub record Fits (part : Part) : Type 0 where
      pub kept : IsKept part.trie part.pairs.entries
      pub keys_are : (key : List ℕ) (row : R) → row_in p key rows ≡ Some row → has_key key (keys_of part.pairs.entries) ≡ true
      pub rows_are : (key : List ℕ) (row : R) → row_in p key rows ≡ Some row → IsFollowed part key row
      pub pairs_are : (key : List ℕ) (pair : Hash32 × Hash32) → pair_at key part.pairs.entries ≡ Some pair → (is_some (row_in p key rows) ≡ true) × (pair.0.0 ≡ blake2b 32 key)

  -- so in each partition
  abbrev pub AllFit : {Z : Type 0} → BTreeMap ℕ Part → List (Vec ℕ Z × Placed R) → Type 0
  AllFit index rows = (p : ℕ) (part : Part) → get nat_cmp index p ≡ Some part → Fits p rows part
