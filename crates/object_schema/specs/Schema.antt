-- The rows of the object store as a schema.
use Rattle.std.specs.Prelude.{ℕ, Bool, true, false, ◌&&◌, List, [], ◌∷◌, ◌++◌, Option, Some, None, is_some}
use Rattle.blake2_hash.specs.Blake2b.{blake2b}
use Rattle.crdt_core.specs.declared.max.Max.{Max}
use Rattle.crdt_core.specs.Map.{map_entries}
use Rattle.crdt_rows.specs.declared.version.Version.{Version}
use Rattle.crdt_rows.specs.declared.body.Body.TheVariants.{Marker}
use Rattle.crdt_rows.specs.declared.state.State.{State}
use Rattle.crdt_rows.specs.declared.state.State.TheVariants.{Complete}
use Rattle.crdt_rows.specs.declared.any_row.AnyRow.{AnyRow}
use Rattle.crdt_rows.specs.declared.any_row.AnyRow.TheVariants as rows
use Rattle.crdt_rows.specs.declared.ref_row.RefRow.{RefRow}
use Rattle.crdt_rows.specs.AnyRow.{table_of}
use Rattle.crdt_rows.specs.VersionRow.{is_deleted}
use Rattle.row_codec.specs.Range.{is_hash, is_eight}
use Rattle.row_codec.specs.Rows.{read, spelling}
use Rattle.row_codec.specs.Spelling.{eight}
use Rattle.table_schema.specs.Words.{Words}
use Rattle.object_schema.specs.Triggers.{triggered}

-- what the row's table, position and key are made of is in its type's range
abbrev pub is_proper : AnyRow → Bool
is_proper (rows.Object r) = is_hash r.bucket
is_proper (rows.Version r) = is_eight r.id
is_proper (rows.Ref r) = is_hash r.hash && is_eight r.id

-- the bucket, the digest of the version's identifier, the block's hash
abbrev pub position_of : AnyRow → List ℕ
position_of (rows.Object r) = r.bucket.0
position_of (rows.Version r) = blake2b 32 (eight r.id)
position_of (rows.Ref r) = r.hash.0

-- bucket and key; identifier; hash and identifier
abbrev pub key_of : AnyRow → List ℕ
key_of (rows.Object r) = r.bucket.0 ++ r.key
key_of (rows.Version r) = eight r.id
key_of (rows.Ref r) = r.hash.0 ++ eight r.id

-- the version, where it is the only one and a delete marker
abbrev pub only_marker : List (Version × Max State) → Option (ℕ × ℕ)
only_marker [] = None
only_marker (e ∷ []) = elim e.1.0 [ Complete Marker ↦ Some (e.0.ts, e.0.id) | _ ↦ None ]
only_marker (e ∷ f ∷ es) = None

-- time and id of the delete marker that an object row has alone
abbrev pub marker_of : AnyRow → Option (ℕ × ℕ)
marker_of (rows.Object r) = only_marker (map_entries r.versions)
marker_of (rows.Version r) = None
marker_of (rows.Ref r) = None

-- a deleted version or reference, or an object with nothing but a delete marker
abbrev pub is_tombstone : AnyRow → Bool
is_tombstone (rows.Object r) = is_some (only_marker (map_entries r.versions))
is_tombstone (rows.Version r) = is_deleted r
is_tombstone (rows.Ref r) = r.deleted.0

-- a reference needs its block until it is deleted
abbrev pub block_of : RefRow → Option (List ℕ)
block_of r = elim r.deleted.0 [ true ↦ None | false ↦ Some r.hash.0 ]

-- the block that a row needs, which only a live reference does
abbrev pub live_block_of : AnyRow → Option (List ℕ)
live_block_of (rows.Object r) = None
live_block_of (rows.Version r) = None
live_block_of (rows.Ref r) = block_of r

-- what the schema says of rows
abbrev pub words : Words AnyRow
words = record {
  is_proper = is_proper;
  table = table_of;
  position = position_of;
  key = key_of;
  is_tombstone = is_tombstone;
  live_block = live_block_of;
  marker = marker_of;
  triggered = triggered;
  spelling = spelling;
  read = read;
}
