-- The blocks that bytes are cut into.
use Rattle.std.specs.Prelude.{ℕ, ◌*◌, nat_lt, leb, Bool, List, length}
use Rattle.std.specs.Fork.{slice_chunk}
use Rattle.blake2_hash.specs.declared.digest.Hash32.{Hash32}
use Rattle.blake2_hash.specs.Hash.{digest_of}

-- block i of the bytes, from 0: as many bytes as a block has, the last one the rest
abbrev pub piece : ℕ → List ℕ → ℕ → List ℕ
piece block body i = slice_chunk body block i

-- there is a block i
abbrev pub has_piece : ℕ → List ℕ → ℕ → Bool
has_piece block body i = nat_lt (i * block) (length body)

-- the name of block i, which is its digest
abbrev pub piece_hash : ℕ → List ℕ → ℕ → Hash32
piece_hash block body i = digest_of (piece block body i)

-- objects of so many bytes and more are kept in blocks
abbrev pub inline_limit : ℕ
inline_limit = 3072

-- the bytes are kept in blocks
abbrev pub is_long : List ℕ → Bool
is_long body = leb inline_limit (length body)
