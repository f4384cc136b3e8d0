-- Reading the parts of a row, each from the front of bytes.
use Rattle.std.specs.Prelude.{ℕ, zero, suc, List, [], ◌∷◌, length, take, drop, nat_lt, Option, Some, None, if◌then◌else◌}
use Rattle.std.specs.Int.{w32, w64, from_be_bytes}
use Rattle.blake2_hash.specs.declared.digest.Hash32.{Hash32}
use Rattle.crdt_core.specs.declared.max.Max.{Max}
use Rattle.crdt_rows.specs.declared.version.Version.{Version}
use Rattle.crdt_rows.specs.declared.body.Meta.{Meta}
use Rattle.crdt_rows.specs.declared.body.Body.TheVariants.{Marker, Inline, Blocks}
use Rattle.crdt_rows.specs.declared.state.State.{State}
use Rattle.crdt_rows.specs.declared.state.State.TheVariants.{Uploading, Aborted, Complete}
use Rattle.crdt_rows.specs.declared.version_row.Part.{Part}
use Rattle.crdt_rows.specs.declared.version_row.BlockRef.{BlockRef}
use Rattle.row_codec.specs.Reads.{◌>>=◌}

-- so many bytes
unfoldable pub bytes_at : ℕ → List ℕ → Option (List ℕ × List ℕ)
bytes_at n bytes = if nat_lt (length bytes) n then None else Some (take n bytes, drop n bytes)

-- the first byte, and the rest
unfoldable pub byte_at : List ℕ → Option (ℕ × List ℕ)
byte_at [] = None
byte_at (b ∷ rest) = Some (b, rest)

-- a number of 4 bytes
unfoldable pub four_at : List ℕ → Option (ℕ × List ℕ)
four_at bytes = do
  front ← bytes_at 4 bytes
  Some (from_be_bytes w32 front.0, front.1)

-- a number of 8 bytes
unfoldable pub eight_at : List ℕ → Option (ℕ × List ℕ)
eight_at bytes = do
  front ← bytes_at 8 bytes
  Some (from_be_bytes w64 front.0, front.1)

-- 4 bytes of length, and so many bytes
unfoldable pub field_at : List ℕ → Option (List ℕ × List ℕ)
field_at bytes = do
  len ← four_at bytes
  bytes_at len.0 len.1

-- n values, one after the other
unfoldable pub each_at : {X : Type 0} → (List ℕ → Option (X × List ℕ)) → ℕ → List ℕ → Option (List X × List ℕ)
each_at read zero bytes = Some ([], bytes)
each_at read (suc n) bytes = do
  first ← read bytes
  others ← each_at read n first.1
  Some (first.0 ∷ others.0, others.1)

-- 4 bytes of count, and so many values
unfoldable pub counted_at : {X : Type 0} → (List ℕ → Option (X × List ℕ)) → List ℕ → Option (List X × List ℕ)
counted_at read bytes = do
  count ← four_at bytes
  each_at read count.0 count.1

-- two values
unfoldable pub both_at : {X Y : Type 0} → (List ℕ → Option (X × List ℕ)) → (List ℕ → Option (Y × List ℕ)) → List ℕ → Option ((X × Y) × List ℕ)
both_at first second bytes = do
  x ← first bytes
  y ← second x.1
  Some ((x.0, y.0), y.1)

-- what f makes of a value
unfoldable pub made_at : {X Y : Type 0} → (X → Y) → (List ℕ → Option (X × List ℕ)) → List ℕ → Option (Y × List ℕ)
made_at f read bytes = do
  x ← read bytes
  Some (f x.0, x.1)

-- what f makes of a value, where it makes something of it
unfoldable pub tested_at : {X Y : Type 0} → (X → Option Y) → (List ℕ → Option (X × List ℕ)) → List ℕ → Option (Y × List ℕ)
tested_at f read bytes = do
  x ← read bytes
  y ← f x.0
  Some (y, x.1)

-- ---- the parts of rows

-- the hash that bytes begin with
unfoldable pub hash_at : List ℕ → Option (Hash32 × List ℕ)
hash_at = made_at (λ b. record { 0 = b }) (bytes_at 32)

-- the version that bytes begin with
unfoldable pub version_at : List ℕ → Option (Version × List ℕ)
version_at = made_at (λ t. record { ts = t.0; id = t.1 }) (both_at eight_at eight_at)

-- the part that bytes begin with
unfoldable pub part_at : List ℕ → Option (Part × List ℕ)
part_at = made_at (λ t. record { part = t.0; offset = t.1 }) (both_at four_at eight_at)

-- the block's hash and size that bytes begin with
unfoldable pub block_at : List ℕ → Option (BlockRef × List ℕ)
block_at = made_at (λ t. record { hash = t.0; size = t.1 }) (both_at hash_at four_at)

-- the value that bytes begin with, as one that grows only
unfoldable pub max_at : {X : Type 0} → (List ℕ → Option (X × List ℕ)) → List ℕ → Option (Max X × List ℕ)
max_at = made_at (λ x. record { 0 = x })

-- the size, ETag and headers that bytes begin with
unfoldable pub meta_at : List ℕ → Option (Meta × List ℕ)
meta_at = made_at (λ t. record { size = t.0; etag = t.1.0; headers = t.1.1 }) (both_at eight_at (both_at (bytes_at 16) (counted_at (both_at field_at field_at))))

-- by the first byte
unfoldable pub state_at : List ℕ → Option (State × List ℕ)
state_at [] = None
state_at (zero ∷ rest) = Some (Uploading, rest)
state_at (suc zero ∷ rest) = Some (Aborted, rest)
state_at (suc (suc zero) ∷ rest) = Some (Complete Marker, rest)
state_at (suc (suc (suc zero)) ∷ rest) = made_at (λ t. Complete (Inline t.0 t.1)) (both_at meta_at field_at) rest
state_at (suc (suc (suc (suc zero))) ∷ rest) = made_at (λ t. Complete (Blocks t.0 t.1)) (both_at meta_at hash_at) rest
state_at (suc (suc (suc (suc (suc n)))) ∷ rest) = None
