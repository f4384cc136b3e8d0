-- The order of places and blocks, and the join of two version rows.
use Rattle.std.specs.Prelude.{Bool, true, false, Option, None, option_map}
use Rattle.std.specs.declared.cmp.Ordering.{Ordering}
use Rattle.std.specs.Ordering.{nat_cmp, ordering_then}
use Rattle.std.specs.declared.cmp.Ord as ord
use Rattle.std.specs.declared.cmp.PartialEq as partial_eq
use Rattle.std.specs.declared.cmp.PartialOrd as partial_ord
use Rattle.crdt_core.specs.declared.map.Map.{Map}
use Rattle.crdt_core.specs.declared.max.Max.{Max}
use Rattle.crdt_core.specs.declared.deletable.Deletable.{Deletable}
use Rattle.crdt_core.specs.declared.deletable.Deletable.TheVariants.{Present, Deleted}
use Rattle.crdt_core.specs.Laws.{through}
use Rattle.crdt_core.specs.Lex.{lex_join}
use Rattle.crdt_core.specs.Deletable.{deletable_join}
use Rattle.crdt_core.specs.Map.{map_get, map_join}
use Rattle.crdt_core.specs.Max.{max_join}
use Rattle.crdt_rows.specs.declared.version_row.Part.{Part}
use Rattle.crdt_rows.specs.declared.version_row.BlockRef.{BlockRef}
use Rattle.crdt_rows.specs.declared.version_row.VersionRow.{VersionRow}
use Rattle.blake2_hash.specs.Hash.{hash_cmp}

-- by part, then by offset
abbrev pub part_cmp : Part → Part → Ordering
part_cmp a b = ordering_then (nat_cmp a.part b.part) (nat_cmp a.offset b.offset)

-- by digest, then by size
abbrev pub block_ref_cmp : BlockRef → BlockRef → Ordering
block_ref_cmp a b = ordering_then (hash_cmp a.hash b.hash) (nat_cmp a.size b.size)

-- it is deleted for good
abbrev pub gone : {V : Type 0} → Deletable V → Bool
gone (Present v) = false
gone Deleted = true

module _ {o : ord.Ghosts Part} {p : partial_eq.Ghosts Part} {q : partial_ord.Ghosts Part} where
  -- the block at a place, where there are blocks
  abbrev pub block_in : Deletable (Map Part (Max BlockRef) o p q) → Part → Option BlockRef
  block_in (Present m) k = option_map (λ b. b.0) (map_get m k)
  block_in Deleted k = None

-- the row is deleted
abbrev pub is_deleted : VersionRow → Bool
is_deleted r = gone r.blocks

-- the block at a place of a row, of which a deleted one has none
abbrev pub block_at : VersionRow → Part → Option BlockRef
block_at r k = block_in r.blocks k

-- the row with the greater identifier; under one identifier deleted where either is, else the blocks of both, at one place the greater
abbrev pub version_row_join : VersionRow → VersionRow → VersionRow
version_row_join = through (λ r. (r.id, r.blocks)) (λ t. record { id = t.0; blocks = t.1 }) (lex_join nat_cmp (deletable_join (map_join (max_join block_ref_cmp))))
