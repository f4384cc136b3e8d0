-- A version row that is at least another one keeps its blocks, and one that is at least all that was stored is whole.
use Rattle.std.specs.Prelude.{◌≡◌, ◌⊎◌, ◌↔◌, false, List, Option, Some, None, refl}
use Rattle.std.specs.List.{Contains}
use Rattle.std.specs.Ordering.{is_gt}
use Rattle.std.specs.Cmp.{tied_itself}
use Rattle.std.proofs.Common.{ap, sym, subst, ◌∙◌, inl, inr}
use Rattle.crdt_rows.specs.declared.version_row.Part.{Part}
use Rattle.crdt_rows.specs.declared.version_row.BlockRef.{BlockRef}
use Rattle.crdt_rows.specs.declared.version_row.VersionRow.{VersionRow}
use Rattle.crdt_rows.specs.declared.any_row.AnyRow.{AnyRow}
use Rattle.crdt_rows.specs.declared.any_row.AnyRow.TheVariants as rows
use Rattle.crdt_rows.specs.VersionRow.{block_ref_cmp, block_at, is_deleted, version_row_join}
use Rattle.crdt_rows.specs.FieldLaws.{block_ref_total}
use Rattle.crdt_rows.specs.Facts.{HasBlock, IsBlockJoin}
use Rattle.object_origins.specs.Shown.{KeepsBlock, BlockWasStored, HasOneBlockAtEach, ShowsVersion}
use Rattle.object_origins.proofs.Shown.{undeleted}

module _ (blocks_join : (a b : VersionRow) → a.id ≡ b.id → is_deleted a ≡ false → is_deleted b ≡ false → IsBlockJoin (HasBlock a) (HasBlock b) (HasBlock (version_row_join a b))) (r v : VersionRow) (same : v.id ≡ r.id) (above : version_row_join v r ≡ v) (there : is_deleted v ≡ false) (p : Part) (x : BlockRef) (has : HasBlock r p x) where
  both : IsBlockJoin (HasBlock v) (HasBlock r) (HasBlock v)
  both = subst (λ (j : VersionRow). IsBlockJoin (HasBlock v) (HasBlock r) (HasBlock j)) above (blocks_join v r same there (undeleted r p x has))

  kept_by : (o : Option BlockRef) → block_at v p ≡ o → KeepsBlock v p x
  kept_by (Some y) e = record { block = y; is_there = e; not_below = ((both p y).0 e).1 x (inr has) }
  kept_by None e =
      let greatest : (y : BlockRef) → (HasBlock v p y) ⊎ (HasBlock r p y) → is_gt (block_ref_cmp y x) ≡ false = (λ y said. elim said [
        | inl in_v ↦ (let none : None ≡ Some y = sym e ∙ in_v in cc)
        | inr in_r ↦ (let one : Some y ≡ Some x = sym in_r ∙ has in let alike : y ≡ x = cc in ap is_gt (ap (λ z. block_ref_cmp z x) alike ∙ tied_itself block_ref_total x))
      ]) in
      let said : block_at v p ≡ Some x = (both p x).1 (inr has, greatest) in
      let none : None ≡ Some x = sym e ∙ said in cc

  -- a version row that is at least another one, and not deleted, has a block where that one has
  pub keeps_block : KeepsBlock v p x
  keeps_block = kept_by (block_at v p) refl

-- a version row that is at least all that was stored of its version, and not deleted, has just these blocks
module _ (blocks_join : (a b : VersionRow) → a.id ≡ b.id → is_deleted a ≡ false → is_deleted b ≡ false → IsBlockJoin (HasBlock a) (HasBlock b) (HasBlock (version_row_join a b))) (stored : List AnyRow) (v : VersionRow) (shows : ShowsVersion stored v) where
  pub whole : ((r : VersionRow) → Contains stored (rows.Version r) → r.id ≡ v.id → version_row_join v r ≡ v) → HasOneBlockAtEach stored v.id → is_deleted v ≡ false → (p : Part) (x : BlockRef) → HasBlock v p x ↔ BlockWasStored stored v.id p x
  whole above one there p x = (
    shows.blocks p x,
    λ was.
        let found = keeps_block blocks_join was.row v (sym was.of_id) (above was.row was.is_there was.of_id) there p x was.says in
        subst (HasBlock v p) (one p found.block x (shows.blocks p found.block found.is_there) was) found.is_there,
  )
