-- The bytes of each row: the table of rows.
use Rattle.std.specs.Prelude.{ℕ, true, false, List, [], ◌∷◌, ◌++◌, length}
use Rattle.std.specs.Int.{w32, w64, to_be_bytes}
use Rattle.std.specs.List.{flat_map}
use Rattle.crdt_core.specs.declared.deletable.Deletable.{Deletable}
use Rattle.crdt_core.specs.declared.deletable.Deletable.TheVariants.{Present, Deleted}
use Rattle.crdt_core.specs.declared.flag.Bool.{Bool as Flag}
use Rattle.crdt_core.specs.Map.{map_entries}
use Rattle.crdt_rows.specs.declared.version.Version.{Version}
use Rattle.crdt_rows.specs.declared.body.Meta.{Meta}
use Rattle.crdt_rows.specs.declared.body.Body.TheVariants.{Marker, Inline, Blocks}
use Rattle.crdt_rows.specs.declared.state.State.{State}
use Rattle.crdt_rows.specs.declared.state.State.TheVariants.{Uploading, Aborted, Complete}
use Rattle.crdt_rows.specs.declared.object_row.ObjectRow.{ObjectRow}
use Rattle.crdt_rows.specs.declared.version_row.Part.{Part}
use Rattle.crdt_rows.specs.declared.version_row.BlockRef.{BlockRef}
use Rattle.crdt_rows.specs.declared.version_row.VersionRow.{VersionRow}
use Rattle.crdt_rows.specs.declared.ref_row.RefRow.{RefRow}
use Rattle.crdt_rows.specs.declared.any_row.AnyRow.{AnyRow}
use Rattle.crdt_rows.specs.declared.any_row.AnyRow.TheVariants as rows

-- a number as one byte
abbrev pub byte : ℕ → List ℕ
byte n = n ∷ []

-- a number as 4 bytes, the highest first
unfoldable pub four : ℕ → List ℕ
four n = to_be_bytes w32 n

-- a number as 8 bytes, the highest first
unfoldable pub eight : ℕ → List ℕ
eight n = to_be_bytes w64 n

-- 4 bytes of length, and the bytes
abbrev pub field : List ℕ → List ℕ
field bytes = four (length bytes) ++ bytes

-- 4 bytes of count, and each in order
abbrev pub counted : {X : Type 0} → (X → List ℕ) → List X → List ℕ
counted spelled xs = four (length xs) ++ flat_map spelled xs

-- size, etag, headers
abbrev pub meta : Meta → List ℕ
meta m = eight m.size ++ (m.etag ++ counted (λ h. field h.0 ++ field h.1) m.headers)

-- the bytes of a version's state, its kind first
abbrev pub state : State → List ℕ
state Uploading = 0 ∷ []
state Aborted = 1 ∷ []
state (Complete Marker) = 2 ∷ []
state (Complete (Inline m bytes)) = 3 ∷ (meta m ++ field bytes)
state (Complete (Blocks m first)) = 4 ∷ (meta m ++ first.0)

-- timestamp, identifier
abbrev pub version : Version → List ℕ
version v = eight v.ts ++ eight v.id

-- part, offset
abbrev pub part : Part → List ℕ
part p = four p.part ++ eight p.offset

-- digest, size
abbrev pub block : BlockRef → List ℕ
block b = b.hash.0 ++ four b.size

-- the bytes of an object row
abbrev pub object_row : ObjectRow → List ℕ
object_row r = r.bucket.0 ++ (field r.key ++ counted (λ e. version e.0 ++ state e.1.0) (map_entries r.versions))

-- 00 and the value, or 01
abbrev pub deletable : {X : Type 0} → (X → List ℕ) → Deletable X → List ℕ
deletable spelled (Present x) = 0 ∷ spelled x
deletable spelled Deleted = 1 ∷ []

-- the bytes of a version row
abbrev pub version_row : VersionRow → List ℕ
version_row r = eight r.id ++ deletable (λ m. counted (λ e. part e.0 ++ block e.1.0) (map_entries m)) r.blocks

-- 01 where it is up
abbrev pub flag : Flag → List ℕ
flag b = elim b.0 [ true ↦ 1 ∷ [] | false ↦ 0 ∷ [] ]

-- the bytes of a reference
abbrev pub reference_row : RefRow → List ℕ
reference_row r = r.hash.0 ++ (eight r.id ++ flag r.deleted)

-- the bytes of a row
abbrev pub spelled : AnyRow → List ℕ
spelled (rows.Object r) = 1 ∷ object_row r
spelled (rows.Version r) = 2 ∷ version_row r
spelled (rows.Ref r) = 3 ∷ reference_row r
