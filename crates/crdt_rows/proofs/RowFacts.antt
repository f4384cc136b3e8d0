-- The joins of two version rows and of two reference rows are the joins of their facts.
use Rattle.std.proofs.Common.{◌≡◌, true, false, ◌||◌, Option, Some, None, option_map, refl, ap, sym, ◌∙◌, Less, Equal}
use Rattle.std.specs.Ordering.{nat_cmp}
use Rattle.std.specs.Cmp.{nat_cmp_total, tied_itself, IsTotalOrder}
use Rattle.std.specs.declared.cmp.Ord as ord
use Rattle.std.specs.declared.cmp.PartialEq as partial_eq
use Rattle.std.specs.declared.cmp.PartialOrd as partial_ord
use Rattle.crdt_core.specs.declared.deletable.Deletable.{Deletable}
use Rattle.crdt_core.specs.declared.deletable.Deletable.TheVariants.{Present, Deleted}
use Rattle.crdt_core.specs.declared.map.Map.{Map}
use Rattle.crdt_core.specs.declared.max.Max.{Max}
use Rattle.crdt_core.specs.Lex.{larger}
use Rattle.crdt_core.specs.Order.{option_join}
use Rattle.crdt_core.specs.Deletable.{deletable_join}
use Rattle.crdt_core.specs.Map.{map_get, map_join}
use Rattle.crdt_core.specs.MapLaws.{map_get-join}
use Rattle.crdt_core.specs.Max.{max_join}
use Rattle.crdt_rows.specs.declared.version_row.Part.{Part}
use Rattle.crdt_rows.specs.declared.version_row.BlockRef.{BlockRef}
use Rattle.crdt_rows.specs.declared.version_row.VersionRow.{VersionRow}
use Rattle.crdt_rows.specs.declared.ref_row.RefRow.{RefRow}
use Rattle.crdt_rows.specs.VersionRow.{block_ref_cmp, gone, block_in, is_deleted, block_at, version_row_join}
use Rattle.crdt_rows.specs.FieldLaws.{part_total, block_ref_total, block_ref_identical}
use Rattle.crdt_rows.specs.RefRow.{ref_key, ref_key_cmp, ref_row_join}
use Rattle.crdt_rows.specs.RowLaws.{key_total}
use Rattle.crdt_rows.specs.Facts.{HasBlock, IsBlockJoin}
use Rattle.crdt_rows.proofs.Said.{picked, none_above, is_picked}

gone_joined : {V : Type 0} (j : V → V → V) (x y : Deletable V) → gone (deletable_join j x y) ≡ (gone x || gone y)
gone_joined j (Present a) (Present b) = refl
gone_joined j (Present a) Deleted = refl
gone_joined j Deleted y = refl

blocks : (x y : Option (Max BlockRef)) → option_map (λ b. b.0) (option_join (max_join block_ref_cmp) x y) ≡ option_join (larger block_ref_cmp) (option_map (λ b. b.0) x) (option_map (λ b. b.0) y)
blocks None y = refl
blocks (Some x) None = refl
blocks (Some x) (Some y) = refl

module _ {o : ord.Ghosts Part} {p : partial_eq.Ghosts Part} {q : partial_ord.Ghosts Part} (total : IsTotalOrder o.cmp) where
  block_joined : (x y : Deletable (Map Part (Max BlockRef) o p q)) (k : Part) → gone x ≡ false → gone y ≡ false → block_in (deletable_join (map_join (max_join block_ref_cmp)) x y) k ≡ option_join (larger block_ref_cmp) (block_in x k) (block_in y k)
  block_joined (Present m) (Present n) k g h = ap (option_map (λ b. b.0)) (map_get-join total (max_join block_ref_cmp) m n k) ∙ blocks (map_get m k) (map_get n k)
  block_joined (Present m) Deleted k g h = let no : true ≡ false = h in cc
  block_joined Deleted y k g h = let no : true ≡ false = g in cc

module _ (a b : VersionRow) where
  tied : a.id ≡ b.id → nat_cmp a.id b.id ≡ Equal
  tied e = ap (nat_cmp a.id) (sym e) ∙ tied_itself nat_cmp_total a.id

  joined : a.id ≡ b.id → (version_row_join a b).blocks ≡ deletable_join (map_join (max_join block_ref_cmp)) a.blocks b.blocks
  joined e = rw (tied e) refl

  pub id_joined : a.id ≡ b.id → (version_row_join a b).id ≡ a.id
  id_joined e = rw (tied e) refl

  pub deleted_joined : a.id ≡ b.id → is_deleted (version_row_join a b) ≡ (is_deleted a || is_deleted b)
  deleted_joined e = ap gone (joined e) ∙ gone_joined (map_join (max_join block_ref_cmp)) a.blocks b.blocks

  pub blocks_joined : a.id ≡ b.id → is_deleted a ≡ false → is_deleted b ≡ false → IsBlockJoin (HasBlock a) (HasBlock b) (HasBlock (version_row_join a b))
  blocks_joined e g h k x =
      let at = ap (λ d. block_in d k) (joined e) ∙ block_joined part_total a.blocks b.blocks k g h in (
        λ is.
            let part = sym at ∙ is in
            (picked block_ref_total block_ref_identical (block_at a k) (block_at b k) x part, none_above block_ref_total block_ref_identical (block_at a k) (block_at b k) x part),
        λ is. at ∙ is_picked block_ref_total block_ref_identical (block_at a k) (block_at b k) x is.0 is.1,
      )

  pub greater_version_stays : nat_cmp a.id b.id ≡ Less → version_row_join a b ≡ b
  greater_version_stays e = rw e refl

module _ (a b : RefRow) where
  pub flag_joined : ref_key a ≡ ref_key b → (ref_row_join a b).deleted.0 ≡ (a.deleted.0 || b.deleted.0)
  flag_joined e = let tied : ref_key_cmp (ref_key a) (ref_key b) ≡ Equal = ap (ref_key_cmp (ref_key a)) (sym e) ∙ tied_itself key_total (ref_key a) in rw tied refl

  pub ref_key_joined : ref_key a ≡ ref_key b → ref_key (ref_row_join a b) ≡ ref_key a
  ref_key_joined e = let tied : ref_key_cmp (ref_key a) (ref_key b) ≡ Equal = ap (ref_key_cmp (ref_key a)) (sym e) ∙ tied_itself key_total (ref_key a) in rw tied refl

  pub greater_ref_stays : ref_key_cmp (ref_key a) (ref_key b) ≡ Less → ref_row_join a b ≡ b
  greater_ref_stays e = rw e refl
