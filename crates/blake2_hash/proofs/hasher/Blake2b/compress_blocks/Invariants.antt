use Rattle.std.proofs.Common.{◌≡◌, ℕ, ◌≤◌, List, [], take}
use Rattle.blake2_hash.specs.Hashing.{Progress, taken_blocks}
use Rattle.blake2_hash.specs.declared.hasher.Blake2b.TheInside.{Inside}
use Rattle.blake2_hash.proofs.hasher.Blake2b.compress_blocks.Given as goal

-- the first i blocks of the bytes are compressed, and nothing is pending
pub record IsCompressed (start : Progress) (now : Inside) (bytes : List ℕ) (i : ℕ) : Type 0 where
  pub state_is : now.state ≡ (taken_blocks start bytes i).state
  pub count_is : now.count ≡ (taken_blocks start bytes i).count
  pub none : take now.buffered now.buffer ≡ []
  pub fits : now.buffered ≤ 128

abbrev pub invariant-loop-i : goal.invariant-loop-i
invariant-loop-i l = IsCompressed l.fn.self l.self-inside l.bytes l.i
