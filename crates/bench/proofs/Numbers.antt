-- One more pair of the job `trie`.
use Rattle.std.specs.Prelude.{◌≡◌, ℕ, suc, ◌+◌, [], List, replicate, refl}
use Rattle.std.proofs.Common.{ap, sym, ◌∙◌, arith}
use Rattle.std.specs.Int.{to_be_bytes, w64}
use Rattle.blake2_hash.specs.Blake2b.{blake2b}
use Rattle.table_model.specs.Root.{Pair}
use Rattle.walk_model.specs.Sets.{put}
use Rattle.bench.specs.Numbered.{numbered}

pub numbered_none : (row : ℕ) (pairs : List Pair) → numbered row 0 pairs ≡ pairs
unfolding numbered
numbered_none row pairs = refl

numbered_suc : (row n : ℕ) (pairs : List Pair) → numbered row (suc n) pairs ≡ put (blake2b 32 (to_be_bytes w64 n)) (replicate 32 row) (numbered row n pairs)
unfolding numbered
numbered_suc row n pairs = refl

pub numbered_more : (row n : ℕ) (pairs : List Pair) → put (blake2b 32 (to_be_bytes w64 n)) (replicate 32 row) (numbered row n pairs) ≡ numbered row (n + 1) pairs
numbered_more row n pairs = let next : suc n ≡ n + 1 = omega arith in sym (numbered_suc row n pairs) ∙ ap (λ m. numbered row m pairs) next
