-- What is cited of the crates below.
use Rattle.std.specs.Prelude.{◌≡◌, ◌⊎◌, ◌||◌, ℕ, true, List, Option, Some}
use Rattle.std.specs.List.{All, Contains}
use Rattle.blake2_hash.specs.declared.digest.Hash32.{Hash32}
use Rattle.crdt_rows.specs.declared.version.Version.{Version}
use Rattle.crdt_rows.specs.declared.state.State.TheVariants.{Aborted}
use Rattle.crdt_rows.specs.declared.version_row.VersionRow.{VersionRow}
use Rattle.crdt_rows.specs.declared.any_row.AnyRow.{AnyRow}
use Rattle.crdt_rows.specs.AnyRow.{any_join}
use Rattle.crdt_rows.specs.VersionRow.{is_deleted, version_row_join}
use Rattle.object_schema.specs.Schema.{words}
use Rattle.block_laws.specs.Fetched.{GaveItsBlock}
use Rattle.cluster_machine.specs.Blocks.{StepBringsBlocks}
use Rattle.cluster_machine.specs.Layouts.{layouts}
use Rattle.cluster_machine.specs.Node.{Ended}
use Rattle.cluster_machine.specs.Run.{IsRun, does, run}
use Rattle.layout_roles.specs.declared.layout.Layout.{Layout}
use Rattle.layout_roles.specs.declared.role.Role.{Role}
use Rattle.cluster_machine.specs.World.{empty}
use Rattle.machine_origins.specs.Origins.{ComesFrom}
use Rattle.object_origins.specs.Gone.{WasStored, IsOverwritten, IsGone, AreDrawn, deletes_nothing}
use Rattle.object_origins.specs.Shown.{Shows}
use Rattle.store_model.specs.Run.{Moving}
use Rattle.store_laws.proofs.Every.{EveryWorld}
use Rattle.cluster_machine.specs.Hashes.{NoClash}
use Rattle.store_laws.proofs.Deeds.{Deed, hashes}

-- worlds are sound, no two strings that these deeds hash have one digest, and where they are all that is done, reads give what was kept; and they give only what was stored; block phases give their blocks; rows show what was stored; a version that is gone was overwritten or aborted; and version rows merge so
pub record Cited (H : Deed → Type 0) : Type 0 where
  pub every : EveryWorld H
  pub clear : NoClash (λ x. H (hashes x))
  pub gives : (digest : List ℕ → List ℕ) (trio : Layout) (roles : List Role → List Role) (moves : List Moving) (m : Moving) → IsRun any_join words layouts trio roles 256 empty moves → All (λ (m : Moving). StepBringsBlocks digest words m.step) moves →
      (e : Ended AnyRow) → Contains (does any_join words layouts trio roles (run any_join words layouts trio roles empty moves) m).ends e → GaveItsBlock digest (run any_join words layouts trio roles empty moves) e
  pub shows : (stored : List AnyRow) (row : AnyRow) → All (λ r. deletes_nothing r ≡ true) stored → ComesFrom any_join words stored row → Shows stored row
  pub overwritten : (stored : List AnyRow) (draw : ℕ → Option ((Hash32 × List ℕ) × Version)) → AreDrawn stored draw →
      (id : ℕ) (key : Hash32 × List ℕ) (v : Version) → draw id ≡ Some (key, v) → IsGone stored id → IsOverwritten stored key v ⊎ WasStored stored key v Aborted
  pub deleted : (a b : VersionRow) → a.id ≡ b.id → is_deleted (version_row_join a b) ≡ (is_deleted a || is_deleted b)
  pub id : (a b : VersionRow) → a.id ≡ b.id → (version_row_join a b).id ≡ a.id
