use Rattle.std.proofs.Common.{map, take, bit_xor}
use Rattle.sha2.specs.Hashers.{Holds256}
use Rattle.sig_v4.proofs.mac.masked_hash.Given as goal

-- the bytes of the key so far were hashed under the mask
abbrev pub invariant-loop-b : goal.invariant-loop-b
invariant-loop-b l = Holds256 l.hash (map (λ b. bit_xor b l.mask) (take l.b-index l.key))
