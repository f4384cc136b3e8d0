-- The pairs of the job `trie`.
use Rattle.std.specs.Prelude.{ℕ, zero, suc, List, replicate}
use Rattle.std.specs.Int.{to_be_bytes, w64}
use Rattle.blake2_hash.specs.Blake2b.{blake2b}
use Rattle.table_model.specs.Root.{Pair}
use Rattle.walk_model.specs.Sets.{put}

-- the set after the pairs of the first `count` numbers were put, with this row
unfoldable pub numbered : ℕ → ℕ → List Pair → List Pair
numbered row zero pairs = pairs
numbered row (suc count) pairs = put (blake2b 32 (to_be_bytes w64 count)) (replicate 32 row) (numbered row count pairs)
