-- HMAC (RFC 2104) over SHA-256, which hashes blocks of 64 bytes.
use Rattle.std.specs.Prelude.{ℕ, ◌-◌, nat_lt, if◌then◌else◌, List, ◌++◌, length, map, replicate, bit_xor}
use Rattle.sha2.specs.Sha256.{sha256}

-- the bytes of a block of SHA-256
abbrev pub block_size : ℕ
block_size = 64

-- the key, filled with zeros up to a block, and each byte of it masked
abbrev pub masked : ℕ → List ℕ → List ℕ
masked mask key = map (λ b. bit_xor b mask) (key ++ replicate (block_size - length key) 0)

-- for a key of a block at most: the digest of the key and the digest of the key and the text, under two masks
abbrev pub short_hmac : List ℕ → List ℕ → List ℕ
short_hmac key text = sha256 (masked 0x5c key ++ sha256 (masked 0x36 key ++ text))

-- of a key longer than a block its digest counts
abbrev pub hmac : List ℕ → List ℕ → List ℕ
hmac key text = short_hmac (if nat_lt block_size (length key) then sha256 key else key) text
