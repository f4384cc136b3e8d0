-- The order of digests, and the digest of bytes.
use Rattle.std.specs.Prelude.{ℕ, Bool, List}
use Rattle.std.specs.declared.cmp.Ordering.{Ordering}
use Rattle.std.specs.Ordering.{nat_cmp}
use Rattle.std.specs.Cmp.Lexicographic.{slice_cmp}
use Rattle.std.specs.BTreeMap.{is_at}
use Rattle.blake2_hash.specs.Blake2b.{blake2b}
use Rattle.blake2_hash.specs.declared.digest.Hash32.{Hash32}

-- by the bytes
abbrev pub hash_cmp : Hash32 → Hash32 → Ordering
hash_cmp a b = slice_cmp nat_cmp a.0 b.0

-- the two are one digest
abbrev pub is_hash : Hash32 → Hash32 → Bool
is_hash h k = is_at (hash_cmp h) k

-- the BLAKE2b-256 of these bytes
abbrev pub digest_of : List ℕ → Hash32
digest_of bytes = record { 0 = blake2b 32 bytes }
