-- The rows that a row's change calls for.
use Rattle.std.specs.Prelude.{ℕ, Bool, true, false, not, ◌&&◌, List, [], ◌∷◌, ◌++◌, Option, Some, is_none, map, filter}
use Rattle.std.specs.declared.cmp.Ordering.{Ordering}
use Rattle.blake2_hash.specs.declared.digest.Hash32.{Hash32}
use Rattle.crdt_core.specs.declared.deletable.Deletable.TheVariants.{Present, Deleted}
use Rattle.crdt_core.specs.declared.flag.Bool.{Bool as Flag}
use Rattle.crdt_core.specs.declared.max.Max.{Max}
use Rattle.crdt_core.specs.Lex.{by_order}
use Rattle.crdt_core.specs.Map.{map_entries}
use Rattle.crdt_rows.specs.declared.version.Version.{Version}
use Rattle.crdt_rows.specs.declared.body.Body.TheVariants.{Marker, Inline, Blocks}
use Rattle.crdt_rows.specs.declared.state.State.{State}
use Rattle.crdt_rows.specs.declared.state.State.TheVariants.{Uploading, Aborted, Complete}
use Rattle.crdt_rows.specs.declared.object_row.ObjectRow.{ObjectRow}
use Rattle.crdt_rows.specs.declared.version_row.VersionRow.{VersionRow}
use Rattle.crdt_rows.specs.declared.any_row.AnyRow.{AnyRow}
use Rattle.crdt_rows.specs.declared.any_row.AnyRow.TheVariants as rows
use Rattle.blake2_hash.specs.Hash.{hash_cmp}
use Rattle.crdt_rows.specs.ObjectRow.{state_at}
use Rattle.crdt_rows.specs.Version.{version_cmp}
use Rattle.crdt_rows.specs.VersionRow.{is_deleted}

-- ---- sets, as their values in ascending order

module _ {K : Type 0} (R : K → K → Ordering) where
  -- the values and k, each once
  abbrev pub with_value : K → List K → List K
  with_value k [] = k ∷ []
  with_value k (x ∷ xs) = by_order (R x k) (x ∷ with_value k xs) (x ∷ xs) (k ∷ x ∷ xs)

  -- the values xs and each of ks
  abbrev pub with_values : List K → List K → List K
  with_values xs [] = xs
  with_values xs (k ∷ ks) = with_values (with_value k xs) ks

  -- each of ks once, in ascending order
  abbrev pub in_order : List K → List K
  in_order ks = with_values [] ks

-- ---- object rows

-- a version in this state may have blocks, and a version row that names them
abbrev pub has_blocks : State → Bool
has_blocks Uploading = true
has_blocks Aborted = true
has_blocks (Complete Marker) = false
has_blocks (Complete (Inline m bytes)) = false
has_blocks (Complete (Blocks m first)) = true

-- the upload was given up
abbrev pub is_aborted : Option State → Bool
is_aborted (Some Aborted) = true
is_aborted other = false

-- the row holds the version no more, which may have blocks
abbrev pub is_lost : ObjectRow → Version × Max State → Bool
is_lost new e = has_blocks e.1.0 && is_none (state_at new e.0)

-- the version is aborted, and was not in the row
abbrev pub is_newly_aborted : ObjectRow → Version × Max State → Bool
is_newly_aborted old e = is_aborted (Some e.1.0) && not (is_aborted (state_at old e.0))

-- the versions that pass a test
abbrev pub versions_that : (Version × Max State → Bool) → List (Version × Max State) → List Version
versions_that test es = map (λ e. e.0) (filter test es)

-- the versions whose blocks are to be given up: those that were lost, and those that are aborted since
abbrev pub given_up : ObjectRow → ObjectRow → List Version
given_up old new = in_order version_cmp (versions_that (is_lost new) (map_entries old.versions) ++ versions_that (is_newly_aborted old) (map_entries new.versions))

-- the row that ends a version's blocks
abbrev pub deleted_version : Version → AnyRow
deleted_version v = rows.Version (record { id = v.id; blocks = Deleted })

-- ---- version rows

-- the different hashes of the blocks of a row, of which a deleted one has none
abbrev pub hashes_of : VersionRow → List Hash32
hashes_of r = elim r.blocks [ Present m ↦ in_order hash_cmp (map (λ e. e.1.0.hash) (map_entries m)) | Deleted ↦ [] ]

-- the flag that is up
abbrev pub up : Flag
up = record { 0 = true }

-- the row that ends a version's need of a block
abbrev pub deleted_reference : ℕ → Hash32 → AnyRow
deleted_reference id hash = rows.Ref (record { hash = hash; id = id; deleted = up })

-- a row that becomes deleted gives up each block that it had
abbrev pub released : VersionRow → VersionRow → List Hash32
released old new = elim (is_deleted new) [ true ↦ hashes_of old | false ↦ [] ]

-- ---- all rows

-- the rows that are to be stored when a row of a table changes from the first to the second
abbrev pub triggered : AnyRow → AnyRow → List AnyRow
triggered (rows.Object a) (rows.Object b) = map deleted_version (given_up a b)
triggered (rows.Version a) (rows.Version b) = map (deleted_reference a.id) (released a b)
triggered (rows.Ref a) (rows.Ref b) = []
triggered a b = []
