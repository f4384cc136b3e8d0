use Rattle.std.proofs.Common.{◌≡◌, ℕ, ◌<◌, ◌*◌, List, length, get_or}
use Rattle.blake2_hash.specs.Blake2b.{word_at}
use Rattle.blake2_hash.proofs.compress.block_words.Given as goal

-- the first i words are the block's
pub record IsLoaded (words block : List ℕ) (i : ℕ) : Type 0 where
  pub len : length words ≡ 16
  pub same : (k : ℕ) → k < i → get_or words k 0 ≡ word_at block (8 * k)

abbrev pub invariant-loop-i : goal.invariant-loop-i
invariant-loop-i l = IsLoaded l.words l.block l.i
