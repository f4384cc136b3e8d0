use Rattle.std.proofs.Common.{◌≡◌, ℕ, ◌*◌, List, length, take}
use Rattle.std.specs.Int.{w64, to_le_bytes}
use Rattle.std.specs.List.{flat_map}
use Rattle.blake2_hash.proofs.hasher.state_bytes.Given as goal

-- the bytes of the first i words are written
pub record IsWritten (bytes state : List ℕ) (i : ℕ) : Type 0 where
  pub len : length bytes ≡ 64
  pub same : take (8 * i) bytes ≡ flat_map (to_le_bytes w64) (take i state)

abbrev pub invariant-loop-i : goal.invariant-loop-i
invariant-loop-i l = IsWritten l.bytes l.state l.i
