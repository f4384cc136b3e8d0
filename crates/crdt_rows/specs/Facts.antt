-- Rows as facts: what a row says at each key, and the join of what two rows say.
use Rattle.std.specs.Prelude.{◌≡◌, ◌↔◌, ◌⊎◌, false, Option, Some, None}
use Rattle.std.specs.declared.cmp.Ordering.{Ordering}
use Rattle.std.specs.Ordering.{is_lt, is_gt}
use Rattle.crdt_rows.specs.declared.version.Version.{Version}
use Rattle.crdt_rows.specs.declared.body.Body.{Body}
use Rattle.crdt_rows.specs.declared.state.State.{State}
use Rattle.crdt_rows.specs.declared.state.State.TheVariants.{Complete}
use Rattle.crdt_rows.specs.declared.object_row.ObjectRow.{ObjectRow}
use Rattle.crdt_rows.specs.declared.version_row.Part.{Part}
use Rattle.crdt_rows.specs.declared.version_row.BlockRef.{BlockRef}
use Rattle.crdt_rows.specs.declared.version_row.VersionRow.{VersionRow}
use Rattle.crdt_rows.specs.State.{state_cmp}
use Rattle.crdt_rows.specs.Version.{version_cmp}
use Rattle.crdt_rows.specs.ObjectRow.{state_at}
use Rattle.crdt_rows.specs.VersionRow.{block_ref_cmp, block_at}

module _ {K X : Type 0} (a b : K → X → Type 0) where
  -- one of the two says it
  abbrev pub IsSaid : K → X → Type 0
  IsSaid k x = a k x ⊎ b k x

  -- one of the two says it, and neither says a greater value at the key
  abbrev pub IsGreatest : (X → X → Ordering) → K → X → Type 0
  IsGreatest R k x = IsSaid k x × ((y : X) → IsSaid k y → is_gt (R y x) ≡ false)

-- the row says that the version is in the state
abbrev pub HasState : ObjectRow → Version → State → Type 0
HasState r v s = state_at r v ≡ Some s

-- neither says of a newer version that it is complete
abbrev pub IsCurrent : (Version → State → Type 0) → (Version → State → Type 0) → Version → Type 0
IsCurrent a b v = (w : Version) (body : Body) → IsSaid a b w (Complete body) → is_lt (version_cmp v w) ≡ false

-- c is what both say, each version with its greatest state, without the versions that are older than a complete one
abbrev pub IsObjectJoin : (Version → State → Type 0) → (Version → State → Type 0) → (Version → State → Type 0) → Type 0
IsObjectJoin a b c = (v : Version) (s : State) → c v s ↔ (IsGreatest a b state_cmp v s × IsCurrent a b v)

-- n is the newest version that is said to be complete, or none is
abbrev pub IsNewest : (Version → State → Type 0) → Option Version → Type 0
IsNewest a None = (v : Version) (body : Body) → ¬ (a v (Complete body))
IsNewest a (Some n) = ((body : Body) × a n (Complete body)) × ((v : Version) (body : Body) → a v (Complete body) → is_lt (version_cmp n v) ≡ false)

-- the row says that the block is at the place
abbrev pub HasBlock : VersionRow → Part → BlockRef → Type 0
HasBlock r p x = block_at r p ≡ Some x

-- c is what both say, at each place the greatest block
abbrev pub IsBlockJoin : (Part → BlockRef → Type 0) → (Part → BlockRef → Type 0) → (Part → BlockRef → Type 0) → Type 0
IsBlockJoin a b c = (p : Part) (x : BlockRef) → c p x ↔ IsGreatest a b block_ref_cmp p x
