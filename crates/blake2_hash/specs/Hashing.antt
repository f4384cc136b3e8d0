-- A message that is taken in piece by piece.
use Rattle.std.specs.Prelude.{◌≡◌, ℕ, zero, suc, ◌+◌, ◌-◌, ◌*◌, ◌%◌, ◌^◌, true, false, List, [], ◌++◌, length, take, drop, replicate}
use Rattle.blake2_hash.specs.Blake2b.{compress, state_after, last_block}

-- what a hasher keeps: the state after the blocks that it has compressed, the count of their bytes
-- modulo 2 ^ 128, and the bytes after them
pub record Progress : Type 0 where
  pub state : List ℕ
  pub count : ℕ
  pub pending : List ℕ

-- p is where a digest of n bytes of the message m stands: all blocks but the last are compressed
pub record HoldsFor (n : ℕ) (p : Progress) (m : List ℕ) : Type 0 where
  pub state_is : p.state ≡ state_after n m (last_block (length m))
  pub count_is : p.count ≡ 128 * last_block (length m) % 2 ^ 128
  pub pending_is : p.pending ≡ drop (128 * last_block (length m)) m

-- the hasher p holds the message m, for a digest of 32 bytes
abbrev pub Holds : Progress → List ℕ → Type 0
Holds p m = HoldsFor 32 p m

-- p with more pending bytes
abbrev pub kept : Progress → List ℕ → Progress
kept p bytes = record p { pending = p.pending ++ bytes }

-- p after a block that is not the message's last
abbrev pub taken : Progress → List ℕ → Progress
taken p block = record {
  state = compress p.state block ((p.count + 128) % 2 ^ 128) false;
  count = (p.count + 128) % 2 ^ 128;
  pending = [];
}

-- p after the first i blocks of the bytes
unfoldable pub taken_blocks : Progress → List ℕ → ℕ → Progress
taken_blocks p bytes zero = p
taken_blocks p bytes (suc i) = taken (taken_blocks p bytes i) (take 128 (drop (128 * i) bytes))

-- the state after the last block, which is the pending bytes and zeros
abbrev pub last_state : Progress → List ℕ
last_state p =
    compress p.state (p.pending ++ replicate (128 - length p.pending) 0) ((p.count + length p.pending) % 2 ^ 128) true
