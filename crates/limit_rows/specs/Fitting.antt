-- Rows that fit: of versions that were drawn and blocks that were stored, with short keys and numbers in their ranges.
use Rattle.std.specs.Prelude.{◌≡◌, ◌≤◌, ◌<◌, ◌^◌, ◌+◌, ◌*◌, ℕ, true, List, [], length, ⊤}
use Rattle.blake2_hash.specs.declared.digest.Hash32.{Hash32}
use Rattle.crdt_core.specs.Members.{Has}
use Rattle.crdt_rows.specs.declared.version.Version.{Version}
use Rattle.crdt_rows.specs.declared.body.Meta.{Meta}
use Rattle.crdt_rows.specs.declared.body.Body.TheVariants.{Marker, Inline, Blocks}
use Rattle.crdt_rows.specs.declared.state.State.{State}
use Rattle.crdt_rows.specs.declared.state.State.TheVariants.{Uploading, Aborted, Complete}
use Rattle.crdt_rows.specs.declared.object_row.ObjectRow.{ObjectRow}
use Rattle.crdt_rows.specs.declared.version_row.Part.{Part}
use Rattle.crdt_rows.specs.declared.version_row.BlockRef.{BlockRef}
use Rattle.crdt_rows.specs.declared.version_row.VersionRow.{VersionRow}
use Rattle.crdt_rows.specs.declared.any_row.AnyRow.{AnyRow}
use Rattle.crdt_rows.specs.declared.any_row.AnyRow.TheVariants as rows
use Rattle.crdt_rows.specs.Facts.{HasState, HasBlock}
use Rattle.crdt_rows.specs.ObjectRow.{object_key}
use Rattle.row_codec.specs.Reads.{are_bytes}
use Rattle.row_codec.specs.Range.{is_block, is_eight, is_hash, block_in_range}
use Rattle.row_codec.specs.Spelling.{spelled}

-- the versions that were drawn so far, and the places of the blocks that were stored
pub record Drawn : Type 0 where
  pub versions : List Version
  pub parts : List Part

-- at most so many, with times and places that so many steps allow
pub record AreWithin (t : ℕ) (v : Drawn) : Type 0 where
  pub few : t ≤ 16777216
  pub few_versions : length v.versions ≤ t
  pub few_parts : length v.parts ≤ t
  pub versions_fit : (x : Version) → Has v.versions x → (x.ts ≤ 100000000000000000 + t) × (x.id ≤ t)
  pub parts_fit : (p : Part) → Has v.parts p → (p.part ≡ 1) × (p.offset ≤ t * 1048576)

-- size, MD5 and no headers
pub record MetaFits (m : Meta) : Type 0 where
  pub size : m.size < 2 ^ 64
  pub etag : is_block 16 m.etag ≡ true
  pub headers : m.headers ≡ []

-- what a state says fits; none says that its version was aborted
abbrev pub StateFits : State → Type 0
StateFits Uploading = ⊤
StateFits Aborted = ⊥
StateFits (Complete Marker) = ⊤
StateFits (Complete (Inline m bytes)) = MetaFits m × (are_bytes bytes ≡ true) × (length bytes ≤ 3072)
StateFits (Complete (Blocks m first)) = MetaFits m × (is_hash first ≡ true)

-- a bucket's hash, and a key of 64 bytes at most
abbrev pub KeyFits : Hash32 × List ℕ → Type 0
KeyFits k = (is_hash k.0 ≡ true) × (are_bytes k.1 ≡ true) × (length k.1 ≤ 64)

module _ (v : Drawn) where
  -- each version of an object's row was drawn, in a state that fits
  abbrev pub SaysFits : ObjectRow → Type 0
  SaysFits r = (x : Version) (s : State) → HasState r x s → Has v.versions x × StateFits s

  -- each block of a version's row was stored at its place, and its numbers fit
  abbrev pub BlocksFit : VersionRow → Type 0
  BlocksFit r = (p : Part) (b : BlockRef) → HasBlock r p b → Has v.parts p × (block_in_range b ≡ true)

  -- the row fits
  abbrev pub RowFits : AnyRow → Type 0
  RowFits (rows.Object r) = KeyFits (object_key r) × SaysFits r
  RowFits (rows.Version r) = (is_eight r.id ≡ true) × BlocksFit r
  RowFits (rows.Ref r) = (is_hash r.hash ≡ true) × (is_eight r.id ≡ true)

-- how many bytes the row counts
abbrev pub weight : AnyRow → ℕ
weight r = length (spelled r)
