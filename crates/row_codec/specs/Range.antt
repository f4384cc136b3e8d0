-- Rows whose numbers are in their types' ranges, and rows that are short enough to have bytes.
use Rattle.std.specs.Prelude.{ℕ, ◌^◌, ◌==◌, Bool, true, nat_lt, ◌&&◌, List, length}
use Rattle.std.specs.List.{list_all}
use Rattle.blake2_hash.specs.declared.digest.Hash32.{Hash32}
use Rattle.crdt_core.specs.declared.deletable.Deletable.{Deletable}
use Rattle.crdt_core.specs.declared.deletable.Deletable.TheVariants.{Present, Deleted}
use Rattle.crdt_core.specs.Map.{map_entries}
use Rattle.crdt_rows.specs.declared.version.Version.{Version}
use Rattle.crdt_rows.specs.declared.body.Meta.{Meta}
use Rattle.crdt_rows.specs.declared.body.Body.TheVariants.{Marker, Inline, Blocks}
use Rattle.crdt_rows.specs.declared.state.State.{State}
use Rattle.crdt_rows.specs.declared.state.State.TheVariants.{Uploading, Aborted, Complete}
use Rattle.crdt_rows.specs.declared.object_row.ObjectRow.{ObjectRow}
use Rattle.crdt_rows.specs.declared.version_row.Part.{Part}
use Rattle.crdt_rows.specs.declared.version_row.BlockRef.{BlockRef}
use Rattle.crdt_rows.specs.declared.version_row.VersionRow.{VersionRow}
use Rattle.crdt_rows.specs.declared.ref_row.RefRow.{RefRow}
use Rattle.crdt_rows.specs.declared.any_row.AnyRow.{AnyRow}
use Rattle.crdt_rows.specs.declared.any_row.AnyRow.TheVariants as rows
use Rattle.row_codec.specs.Reads.{are_bytes}

-- the value passes the test, where there is one
abbrev pub unless_deleted : {X : Type 0} → (X → Bool) → Deletable X → Bool
unless_deleted test (Present x) = test x
unless_deleted test Deleted = true

-- ---- numbers in their types' ranges

-- n bytes
abbrev pub is_block : ℕ → List ℕ → Bool
is_block n bytes = (length bytes == n) && are_bytes bytes

-- a number of one byte
abbrev pub is_byte : ℕ → Bool
is_byte n = nat_lt n (2 ^ 8)

-- a number of 4 bytes
abbrev pub is_four : ℕ → Bool
is_four n = nat_lt n (2 ^ 32)

-- a number of 8 bytes
abbrev pub is_eight : ℕ → Bool
is_eight n = nat_lt n (2 ^ 64)

-- 32 bytes
abbrev pub is_hash : Hash32 → Bool
is_hash h = is_block 32 h.0

-- size, ETag and headers are bytes and numbers of their widths
abbrev pub meta_in_range : Meta → Bool
meta_in_range m = is_eight m.size && (is_block 16 m.etag && list_all (λ h. are_bytes h.0 && are_bytes h.1) m.headers)

-- what a state carries is of its width
abbrev pub state_in_range : State → Bool
state_in_range Uploading = true
state_in_range Aborted = true
state_in_range (Complete Marker) = true
state_in_range (Complete (Inline m bytes)) = meta_in_range m && are_bytes bytes
state_in_range (Complete (Blocks m first)) = meta_in_range m && is_hash first

-- a version's time and id each fit 8 bytes
abbrev pub version_in_range : Version → Bool
version_in_range v = is_eight v.ts && is_eight v.id

-- a part's number fits 4 bytes, its offset 8
abbrev pub part_in_range : Part → Bool
part_in_range p = is_four p.part && is_eight p.offset

-- a block's hash is 32 bytes, its size fits 4
abbrev pub block_in_range : BlockRef → Bool
block_in_range b = is_hash b.hash && is_four b.size

-- all of an object row is of its width
abbrev pub object_in_range : ObjectRow → Bool
object_in_range r = is_hash r.bucket && (are_bytes r.key && list_all (λ e. version_in_range e.0 && state_in_range e.1.0) (map_entries r.versions))

-- all of a version row is of its width
abbrev pub version_row_in_range : VersionRow → Bool
version_row_in_range r = is_eight r.id && unless_deleted (λ m. list_all (λ e. part_in_range e.0 && block_in_range e.1.0) (map_entries m)) r.blocks

-- a reference's hash is 32 bytes, its version's id fits 8
abbrev pub ref_in_range : RefRow → Bool
ref_in_range r = is_hash r.hash && is_eight r.id

-- each number of the row is in its type's range
abbrev pub in_range : AnyRow → Bool
in_range (rows.Object r) = object_in_range r
in_range (rows.Version r) = version_row_in_range r
in_range (rows.Ref r) = ref_in_range r

-- ---- lengths and counts below 2^32

-- short enough for a length of 4 bytes
abbrev pub is_below : {X : Type 0} → List X → Bool
is_below xs = nat_lt (length xs) (2 ^ 32)

-- fewer than 2^32, and each short
abbrev pub are_short : {X : Type 0} → (X → Bool) → List X → Bool
are_short is_short xs = is_below xs && list_all is_short xs

-- the headers are short enough for their lengths
abbrev pub is_short_meta : Meta → Bool
is_short_meta m = are_short (λ h. is_below h.0 && is_below h.1) m.headers

-- what a state carries is short enough for its lengths
abbrev pub is_short_state : State → Bool
is_short_state Uploading = true
is_short_state Aborted = true
is_short_state (Complete Marker) = true
is_short_state (Complete (Inline m bytes)) = is_short_meta m && is_below bytes
is_short_state (Complete (Blocks m first)) = is_short_meta m

-- the key, and what each version carries, are short enough for their lengths
abbrev pub is_short_object : ObjectRow → Bool
is_short_object r = is_below r.key && are_short (λ e. is_short_state e.1.0) (map_entries r.versions)

-- the blocks are few enough for their count
abbrev pub is_short_version_row : VersionRow → Bool
is_short_version_row r = unless_deleted (λ m. are_short (λ e. true) (map_entries m)) r.blocks

-- each length and count is below 2^32, so that the row has bytes
abbrev pub has_bytes : AnyRow → Bool
has_bytes (rows.Object r) = is_short_object r
has_bytes (rows.Version r) = is_short_version_row r
has_bytes (rows.Ref r) = true
