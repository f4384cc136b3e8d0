-- Versions of objects that are gone: what the rows say that store phases began to store.
use Rattle.std.specs.Prelude.{◌≡◌, ◌⊎◌, ℕ, Bool, true, not, List, Option, Some}
use Rattle.std.specs.List.{Contains}
use Rattle.std.specs.Ordering.{is_lt}
use Rattle.blake2_hash.specs.declared.digest.Hash32.{Hash32}
use Rattle.crdt_rows.specs.declared.version.Version.{Version}
use Rattle.crdt_rows.specs.declared.body.Body.{Body}
use Rattle.crdt_rows.specs.declared.state.State.{State}
use Rattle.crdt_rows.specs.declared.state.State.TheVariants.{Aborted, Complete}
use Rattle.crdt_rows.specs.declared.object_row.ObjectRow.{ObjectRow}
use Rattle.crdt_rows.specs.declared.any_row.AnyRow.{AnyRow}
use Rattle.crdt_rows.specs.declared.any_row.AnyRow.TheVariants as rows
use Rattle.crdt_rows.specs.Version.{version_cmp}
use Rattle.crdt_rows.specs.ObjectRow.{object_key}
use Rattle.crdt_rows.specs.VersionRow.{is_deleted}
use Rattle.crdt_rows.specs.Facts.{HasState}

-- the row is not of a deleted version, nor a deleted reference
abbrev pub deletes_nothing : AnyRow → Bool
deletes_nothing (rows.Object r) = true
deletes_nothing (rows.Version r) = not (is_deleted r)
deletes_nothing (rows.Ref r) = not r.deleted.0

module _ (stored : List AnyRow) where
  -- one of these rows, of this bucket and key, says that the version is in this state
  pub record WasStored (key : Hash32 × List ℕ) (v : Version) (x : State) : Type 0 where
    pub row : ObjectRow
    pub is_there : Contains stored (rows.Object row)
    pub of_key : object_key row ≡ key
    pub says : HasState row v x

  -- one of these rows, of this bucket and key, says that a newer version is complete
  pub record IsOverwritten (key : Hash32 × List ℕ) (v : Version) : Type 0 where
    pub newer : Version
    pub body : Body
    pub is_newer : is_lt (version_cmp v newer) ≡ true
    pub complete : WasStored key newer (Complete body)

  -- these rows say of a version with this identifier that it is in some state; and that a newer one of its bucket and key
  -- is complete, or that it is aborted itself
  pub record IsGone (id : ℕ) : Type 0 where
    pub key : Hash32 × List ℕ
    pub version : Version
    pub id_is : version.id ≡ id
    pub state : State
    pub was_stored : WasStored key version state
    pub why : IsOverwritten key version ⊎ WasStored key version Aborted

  -- under each identifier these rows speak of one version of one bucket and key alone
  abbrev pub AreDrawn : (ℕ → Option ((Hash32 × List ℕ) × Version)) → Type 0
  AreDrawn draw = (key : Hash32 × List ℕ) (v : Version) (x : State) → WasStored key v x → draw v.id ≡ Some (key, v)
