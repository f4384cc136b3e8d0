-- What rows say: an object row of its object, a version row of its blocks.
use Rattle.std.specs.Prelude.{ℕ, ◌+◌, nat_eq, Bool, true, false, ◌&&◌, Option, Some, None, List, [], ◌∷◌, filter}
use Rattle.crdt_core.specs.declared.max.Max.{Max}
use Rattle.crdt_core.specs.declared.deletable.Deletable.TheVariants.{Present, Deleted}
use Rattle.crdt_core.specs.Map.{map_entries}
use Rattle.crdt_rows.specs.declared.version.Version.{Version}
use Rattle.crdt_rows.specs.declared.body.Meta.{Meta}
use Rattle.crdt_rows.specs.declared.body.Body.TheVariants.{Marker, Inline, Blocks}
use Rattle.crdt_rows.specs.declared.state.State.{State}
use Rattle.crdt_rows.specs.declared.state.State.TheVariants.{Complete}
use Rattle.crdt_rows.specs.declared.object_row.ObjectRow.{ObjectRow}
use Rattle.crdt_rows.specs.declared.version_row.Part.{Part}
use Rattle.crdt_rows.specs.declared.version_row.BlockRef.{BlockRef}
use Rattle.crdt_rows.specs.declared.any_row.AnyRow.{AnyRow}
use Rattle.crdt_rows.specs.declared.any_row.AnyRow.TheVariants as rows
use Rattle.crdt_rows.specs.ObjectRow.{newest, state_at}
use Rattle.crdt_rows.specs.Versions.{greatest_ts as greatest_of}

-- the greatest timestamp of a row; no row counts as 0
abbrev pub greatest_ts : Option AnyRow → ℕ
greatest_ts (Some (rows.Object r)) = greatest_of (map_entries r.versions)
greatest_ts _ = 0

-- what a row says of its object
pub data Said : Type 0 where
  none : Said  -- no complete version
  marked : Version → Said  -- the newest complete version is a delete marker
  inline : Version → Meta → List ℕ → Said  -- the newest complete version, and its bytes
  in_blocks : Version → Meta → List ℕ → Said  -- the newest complete version, whose bytes are kept in blocks, and the first block's hash

-- what a version's state says of its object
abbrev pub of_state : Version → Option State → Said
of_state v (Some (Complete Marker)) = marked v
of_state v (Some (Complete (Inline meta body))) = inline v meta body
of_state v (Some (Complete (Blocks meta first))) = in_blocks v meta first.0
of_state v _ = none

-- what a row says of one of its versions
abbrev pub of_version : ObjectRow → Option Version → Said
of_version r None = none
of_version r (Some v) = of_state v (state_at r v)

-- what an object row says of its object
abbrev pub said_by : ObjectRow → Said
said_by r = of_version r (newest r)

-- what a row says of its object; only an object row says anything
abbrev pub said_of : Option AnyRow → Said
said_of (Some (rows.Object r)) = said_by r
said_of _ = none

-- there is an object
abbrev pub is_object : Said → Bool
is_object none = false
is_object (marked v) = false
is_object (inline v meta body) = true
is_object (in_blocks v meta first) = true

-- a list shows the keys whose newest complete version is no delete marker
abbrev pub is_shown : ObjectRow → Bool
is_shown r = is_object (said_by r)

-- the object rows among rows
abbrev pub object_rows : List AnyRow → List ObjectRow
object_rows [] = []
object_rows (rows.Object r ∷ rs) = r ∷ object_rows rs
object_rows (r ∷ rs) = object_rows rs

-- the rows of a window that a list shows
abbrev pub shown_rows : List AnyRow → List ObjectRow
shown_rows rs = filter is_shown (object_rows rs)

-- blocks stand one after the other from this offset on, and end at this size
abbrev pub are_whole : ℕ → List (Part × Max BlockRef) → ℕ → Bool
are_whole offset [] size = nat_eq offset size
are_whole offset (e ∷ es) size = nat_eq e.0.offset offset && are_whole (offset + e.1.0.size) es size

-- what a version row says of its blocks, in order of their places
abbrev pub blocks_in : List (Part × Max BlockRef) → List BlockRef
blocks_in [] = []
blocks_in (e ∷ es) = e.1.0 ∷ blocks_in es

-- what a row says of a version's blocks
pub data Named : Type 0 where
  unnamed : Named  -- there is no version row, or its blocks are not whole yet
  whole : List BlockRef → Named  -- its blocks in order
  deleted : Named  -- the version was deleted

-- what these entries say of the blocks of a version of so many bytes
abbrev pub of_entries : List (Part × Max BlockRef) → ℕ → Named
of_entries es size = elim (are_whole 0 es size) [ true ↦ whole (blocks_in es) | false ↦ unnamed ]

-- what a row says of the blocks of a version of so many bytes
abbrev pub named_by : Option AnyRow → ℕ → Named
named_by (Some (rows.Version r)) size = elim r.blocks [ Present m ↦ of_entries (map_entries m) size | Deleted ↦ deleted ]
named_by _ size = unnamed
