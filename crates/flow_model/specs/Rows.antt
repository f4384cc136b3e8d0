-- The rows that requests store.
use Rattle.std.specs.Prelude.{◌≡◌, ℕ, ◌==◌, ◌*◌, true, false, Option, Some, None, List, [], ◌∷◌, ◌++◌, length, refl}
use Rattle.std.proofs.Common.{rules}
use Rattle.std.specs.Cmp.{tied_itself}
use Rattle.md5.specs.Md5.{md5}
use Rattle.blake2_hash.specs.Hash.{digest_of}
use Rattle.crdt_core.specs.Map.{map_single}
use Rattle.crdt_core.specs.declared.deletable.Deletable.TheVariants.{Present}
use Rattle.crdt_rows.specs.declared.version.Version.{Version}
use Rattle.crdt_rows.specs.declared.body.Meta.{Meta}
use Rattle.crdt_rows.specs.declared.body.Body.TheVariants.{Marker, Inline, Blocks}
use Rattle.crdt_rows.specs.declared.state.State.{State}
use Rattle.crdt_rows.specs.declared.state.State.TheVariants.{Uploading, Aborted, Complete}
use Rattle.crdt_rows.specs.declared.any_row.AnyRow.{AnyRow}
use Rattle.crdt_rows.specs.declared.any_row.AnyRow.TheVariants as rows
use Rattle.crdt_rows.specs.State.{is_sized}
use Rattle.crdt_rows.specs.FieldLaws.{version_total}
use Rattle.crdt_rows.specs.Versions.{is_settled_row, is_sized_row}
use Rattle.flow_model.specs.declared.flow.Name.{Name}
use Rattle.flow_model.specs.declared.flow.Coming.{Coming}
use Rattle.flow_model.specs.declared.flow.Content.{Content}
use Rattle.flow_model.specs.declared.flow.Wish.{Wish}
use Rattle.flow_model.specs.declared.flow.Wish.TheVariants as wish
use Rattle.flow_model.specs.Blocks.{piece, piece_hash, is_long}

-- the key of the object's row
abbrev pub row_key : Name → List ℕ
row_key name = (digest_of name.bucket).0 ++ name.key

-- what is stored of bytes beside them: their length, their MD5 and the headers
abbrev pub meta_of : Content → Meta
meta_of c = record { size = length c.body; etag = md5 c.body; headers = c.headers }

-- the bytes that were received of those that come, with the headers that are stored beside them
abbrev pub content_of : Coming → List ℕ → Content
content_of coming received = record { body = received; headers = coming.headers }

-- Two laws that the next definition needs, and what they stand on: a number is itself.
pub same_number : (n : ℕ) → (n == n) ≡ true
same_number n = search rules

-- one version alone is settled
pub settled : (version : Version) (state : State) → is_settled_row ((version, record { 0 = state }) ∷ []) ≡ true
settled version Uploading = refl
settled version Aborted = refl
settled version (Complete body) = rw (tied_itself version_total version) refl

-- and sized where its state is
pub sized : (version : Version) (state : State) → is_sized state ≡ true → is_sized_row ((version, record { 0 = state }) ∷ []) ≡ true
sized version state e = rw e refl

-- the row that says of one version of an object in which state it is
abbrev pub object_row : Name → Version → (state : State) → is_sized state ≡ true → AnyRow
object_row name version state is_sized = rows.Object (record {
  bucket = digest_of name.bucket;
  key = name.key;
  versions = map_single version (record { 0 = state });
  settled = settled version state;
  sized = sized version state is_sized;
})

-- the upload of this version has begun
abbrev pub uploading : Name → Version → AnyRow
uploading name version = object_row name version Uploading refl

-- the upload of this version was given up
abbrev pub aborted : Name → Version → AnyRow
aborted name version = object_row name version Aborted refl

-- the object is deleted since this version
abbrev pub marker : Name → Version → AnyRow
marker name version = object_row name version (Complete Marker) refl

-- the version is complete, with these bytes in its row
abbrev pub inline : Name → Version → Content → AnyRow
inline name version c = object_row name version (Complete (Inline (meta_of c) c.body)) (same_number (length c.body))

-- the version is complete, and its bytes are kept in blocks of this size
abbrev pub in_blocks : Name → Version → ℕ → Content → AnyRow
in_blocks name version block c = object_row name version (Complete (Blocks (meta_of c) (piece_hash block c.body 0))) refl

-- the row that says that the version is complete
abbrev pub complete : Name → Version → ℕ → Wish → AnyRow
complete name version block wish.Marker = marker name version
complete name version block (wish.Stream coming) = inline name version (content_of coming [])  -- no byte of it is known
complete name version block (wish.Content c) = elim (is_long c.body) [ true ↦ in_blocks name version block c | false ↦ inline name version c ]

-- the version's row with the block of these bytes alone, which begins at this offset
abbrev pub version_row_at : ℕ → ℕ → List ℕ → AnyRow
version_row_at id offset bytes = rows.Version (record {
  id = id;
  blocks = Present (map_single (record { part = 1; offset = offset }) (record { 0 = record { hash = digest_of bytes; size = length bytes } }));
})

-- the live reference of the version to the block of these bytes
abbrev pub reference_to : ℕ → List ℕ → AnyRow
reference_to id bytes = rows.Ref (record { hash = digest_of bytes; id = id; deleted = record { 0 = false } })

-- what is stored of a version's block: the two rows, with the block beside the reference
abbrev pub rows_at : ℕ → ℕ → List ℕ → List (AnyRow × Option (List ℕ))
rows_at id offset bytes = (version_row_at id offset bytes, None) ∷ (reference_to id bytes, Some bytes) ∷ []

-- the version's row with its block i alone
abbrev pub version_row : ℕ → ℕ → List ℕ → ℕ → AnyRow
version_row id block body i = version_row_at id (i * block) (piece block body i)

-- the live reference of the version to its block i
abbrev pub reference_row : ℕ → ℕ → List ℕ → ℕ → AnyRow
reference_row id block body i = reference_to id (piece block body i)

-- what is stored of a version's block i
abbrev pub block_rows : ℕ → ℕ → List ℕ → ℕ → List (AnyRow × Option (List ℕ))
block_rows id block body i = rows_at id (i * block) (piece block body i)
