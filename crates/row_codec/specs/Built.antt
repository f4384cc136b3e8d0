-- Maps and rows from what stands in bytes.
use Rattle.std.specs.Prelude.{◌≡◌, ℕ, nat_eq, Bool, true, false, ◌&&◌, List, Option, Some, None, refl}
use Rattle.std.specs.Ordering.{nat_cmp, partial_ordering_then}
use Rattle.std.specs.declared.cmp.Ord as ord
use Rattle.std.specs.declared.cmp.PartialEq as partial_eq
use Rattle.std.specs.declared.cmp.PartialOrd as partial_ord
use Rattle.blake2_hash.specs.declared.digest.Hash32.{Hash32}
use Rattle.crdt_core.specs.declared.map.Map.{Map}
use Rattle.crdt_core.specs.Entries.{is_ascending}
use Rattle.crdt_core.specs.Map.{MapOf, map_entries}
use Rattle.crdt_core.specs.declared.max.Max.{Max}
use Rattle.crdt_rows.specs.declared.state.State.{State}
use Rattle.crdt_rows.specs.declared.object_row.ObjectRow.{ObjectRow}
use Rattle.crdt_rows.specs.declared.version_row.BlockRef.{BlockRef}
use Rattle.crdt_rows.specs.Version.{version_cmp}
use Rattle.crdt_rows.specs.VersionRow.{part_cmp}
use Rattle.crdt_rows.specs.Versions.{is_settled_row, is_sized_row}

module _ {K V : Type 0} {o : ord.Ghosts K} {p : partial_eq.Ghosts K} {q : partial_ord.Ghosts K} where
  -- a map of these entries, where their keys ascend
  abbrev pub map_by : (es : List (K × V)) (b : Bool) → is_ascending o.cmp es ≡ b → Option (Map K V o p q)
  map_by es true h = Some (record { entries = es; ascending = h })
  map_by es false h = None

  -- the map of these entries, where they ascend
  abbrev pub map_from : List (K × V) → Option (Map K V o p q)
  map_from es = map_by es (is_ascending o.cmp es) refl

-- the versions of an object row
abbrev pub VersionMap : Type 0
VersionMap = MapOf version_cmp (λ v w. nat_eq v.ts w.ts && nat_eq v.id w.id) (λ v w. partial_ordering_then (Some (nat_cmp v.ts w.ts)) (Some (nat_cmp v.id w.id))) (Max State)

-- the blocks of a version row
abbrev pub BlockMap : Type 0
BlockMap = MapOf part_cmp (λ p q. nat_eq p.part q.part && nat_eq p.offset q.offset) (λ p q. partial_ordering_then (Some (nat_cmp p.part q.part)) (Some (nat_cmp p.offset q.offset))) (Max BlockRef)

-- what an object row is made of
abbrev pub object_parts : ObjectRow → Hash32 × (List ℕ × VersionMap)
object_parts r = (r.bucket, (r.key, r.versions))

-- an object row of this bucket, key and versions, where they are settled and sized
abbrev pub object_by : (t : Hash32 × (List ℕ × VersionMap)) (b c : Bool) → is_settled_row (map_entries t.1.1) ≡ b → is_sized_row (map_entries t.1.1) ≡ c → Option ObjectRow
object_by t true true h g = Some (record { bucket = t.0; key = t.1.0; versions = t.1.1; settled = h; sized = g })
object_by t true false h g = None
object_by t false c h g = None

-- The object row of these parts, where no version is older than the newest complete one and inline bytes are as
-- many as their size says.
abbrev pub object_from : Hash32 × (List ℕ × VersionMap) → Option ObjectRow
object_from t = object_by t (is_settled_row (map_entries t.1.1)) (is_sized_row (map_entries t.1.1)) refl refl
