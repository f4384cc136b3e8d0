-- What a row shows of the rows that store phases began to store.
use Rattle.std.specs.Prelude.{◌≡◌, ℕ, true, false, List}
use Rattle.std.specs.List.{Contains}
use Rattle.std.specs.Ordering.{is_gt}
use Rattle.crdt_rows.specs.declared.version.Version.{Version}
use Rattle.crdt_rows.specs.declared.state.State.{State}
use Rattle.crdt_rows.specs.declared.version_row.Part.{Part}
use Rattle.crdt_rows.specs.declared.version_row.BlockRef.{BlockRef}
use Rattle.crdt_rows.specs.declared.version_row.VersionRow.{VersionRow}
use Rattle.crdt_rows.specs.declared.any_row.AnyRow.{AnyRow}
use Rattle.crdt_rows.specs.declared.any_row.AnyRow.TheVariants as rows
use Rattle.crdt_rows.specs.ObjectRow.{object_key}
use Rattle.crdt_rows.specs.VersionRow.{block_ref_cmp, is_deleted}
use Rattle.crdt_rows.specs.Facts.{HasState, HasBlock}
use Rattle.object_origins.specs.Gone.{WasStored, IsGone}

-- the row has at the place a block that is not below this one
pub record KeepsBlock (r : VersionRow) (p : Part) (x : BlockRef) : Type 0 where
  pub block : BlockRef
  pub is_there : HasBlock r p block
  pub not_below : is_gt (block_ref_cmp x block) ≡ false

module _ (stored : List AnyRow) where
  -- one of these rows, of the version with this identifier, says that the block is at the place
  pub record BlockWasStored (id : ℕ) (p : Part) (x : BlockRef) : Type 0 where
    pub row : VersionRow
    pub is_there : Contains stored (rows.Version row)
    pub of_id : row.id ≡ id
    pub says : HasBlock row p x

  -- at each place of the version with this identifier these rows say of one block alone that it is there
  abbrev pub HasOneBlockAtEach : ℕ → Type 0
  HasOneBlockAtEach id = (p : Part) (x y : BlockRef) → BlockWasStored id p x → BlockWasStored id p y → x ≡ y

  -- a version row's blocks are among those of these rows, and where it is deleted its version is gone
  pub record ShowsVersion (r : VersionRow) : Type 0 where
    pub gone : is_deleted r ≡ true → IsGone stored r.id
    pub blocks : (p : Part) (x : BlockRef) → HasBlock r p x → BlockWasStored r.id p x

  -- an object row says of versions only what these rows say; a version row is as above; a deleted reference is of a
  -- version that is gone
  abbrev pub Shows : AnyRow → Type 0
  Shows (rows.Object r) = (v : Version) (x : State) → HasState r v x → WasStored stored (object_key r) v x
  Shows (rows.Version r) = ShowsVersion r
  Shows (rows.Ref r) = r.deleted.0 ≡ true → IsGone stored r.id
