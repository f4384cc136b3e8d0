-- Reading a row from the front of bytes, and a row alone.
use Rattle.std.proofs.Common.{ℕ, zero, suc, true, false, List, [], ◌∷◌, Option, Some, None}
use Rattle.std.specs.declared.cmp.Ord as ord
use Rattle.std.specs.declared.cmp.PartialEq as partial_eq
use Rattle.std.specs.declared.cmp.PartialOrd as partial_ord
use Rattle.crdt_core.specs.declared.deletable.Deletable.{Deletable}
use Rattle.crdt_core.specs.declared.deletable.Deletable.TheVariants.{Present, Deleted}
use Rattle.crdt_core.specs.declared.flag.Bool.{Bool as Flag}
use Rattle.crdt_core.specs.declared.map.Map.{Map}
use Rattle.crdt_rows.specs.declared.object_row.ObjectRow.{ObjectRow}
use Rattle.crdt_rows.specs.declared.version_row.VersionRow.{VersionRow}
use Rattle.crdt_rows.specs.declared.ref_row.RefRow.{RefRow}
use Rattle.crdt_rows.specs.declared.any_row.AnyRow.{AnyRow}
use Rattle.crdt_rows.specs.declared.any_row.AnyRow.TheVariants as rows
use Rattle.row_codec.specs.Reads.{spelling_of, read_whole}
use Rattle.row_codec.specs.Range.{in_range, has_bytes}
use Rattle.row_codec.specs.Spelling.{spelled}
use Rattle.row_codec.specs.Reading.{eight_at, field_at, counted_at, both_at, made_at, tested_at, hash_at, version_at, part_at, block_at, max_at, state_at}
use Rattle.row_codec.specs.Built.{BlockMap, map_from, object_from}

-- the flag that bytes begin with
unfoldable pub flag_at : List ℕ → Option (Flag × List ℕ)
flag_at [] = None
flag_at (zero ∷ rest) = Some (record { 0 = false }, rest)
flag_at (suc zero ∷ rest) = Some (record { 0 = true }, rest)
flag_at (suc (suc n) ∷ rest) = None

-- the value that bytes begin with, or that it is deleted
unfoldable pub deletable_at : {X : Type 0} → (List ℕ → Option (X × List ℕ)) → List ℕ → Option (Deletable X × List ℕ)
deletable_at read [] = None
deletable_at read (zero ∷ rest) = made_at Present read rest
deletable_at read (suc zero ∷ rest) = Some (Deleted, rest)
deletable_at read (suc (suc n) ∷ rest) = None

module _ {K V : Type 0} {o : ord.Ghosts K} {p : partial_eq.Ghosts K} {q : partial_ord.Ghosts K} where
  -- the map that bytes begin with, where its keys ascend
  unfoldable pub map_at : (List ℕ → Option (K × List ℕ)) → (List ℕ → Option (V × List ℕ)) → List ℕ → Option (Map K V o p q × List ℕ)
  map_at key_at value_at = tested_at map_from (counted_at (both_at key_at value_at))

-- the object row that bytes begin with
unfoldable pub object_at : List ℕ → Option (ObjectRow × List ℕ)
object_at = tested_at object_from (both_at hash_at (both_at field_at (map_at version_at (max_at state_at))))

-- the version row that bytes begin with
unfoldable pub version_row_at : List ℕ → Option (VersionRow × List ℕ)
version_row_at = made_at (λ (t : ℕ × Deletable BlockMap). record { id = t.0; blocks = t.1 }) (both_at eight_at (deletable_at (map_at part_at (max_at block_at))))

-- the reference that bytes begin with
unfoldable pub reference_at : List ℕ → Option (RefRow × List ℕ)
reference_at = made_at (λ t. record { hash = t.0; id = t.1.0; deleted = t.1.1 }) (both_at hash_at (both_at eight_at flag_at))

-- by the first byte
unfoldable pub row_at : List ℕ → Option (AnyRow × List ℕ)
row_at [] = None
row_at (zero ∷ rest) = None
row_at (suc zero ∷ rest) = made_at rows.Object object_at rest
row_at (suc (suc zero) ∷ rest) = made_at rows.Version version_row_at rest
row_at (suc (suc (suc zero)) ∷ rest) = made_at rows.Ref reference_at rest
row_at (suc (suc (suc (suc n))) ∷ rest) = None

-- the bytes of a row that has any
abbrev pub spelling : AnyRow → Option (List ℕ)
spelling r = spelling_of in_range has_bytes spelled r

-- the row that has these bytes
abbrev pub read : List ℕ → Option AnyRow
read bytes = read_whole row_at bytes
