-- The keys of rows with nothing but a delete marker, by the markers' timestamps.
use Rattle.std.specs.Prelude.{◌≡◌, ℕ, ◌==◌, ◌&&◌, ◌||◌, leb, Bool, true, false, List, Option, Some, None, Vec}
use Rattle.std.specs.BTreeMap.{BTreeMap, get}
use Rattle.std.specs.BTreeSet.{BTreeSet}
use Rattle.std.specs.Ordering.{nat_cmp, is_eq}
use Rattle.std.specs.Cmp.Lexicographic.{slice_cmp}
use Rattle.table_schema.specs.Words.{Words}
use Rattle.table_store.specs.declared.shelf.Placed.{Placed}
use Rattle.table_store.specs.Index.{Key, has_key}
use Rattle.table_store.specs.Shelf.{placed_at, shelf_find}

-- keys by timestamps
abbrev pub Markers : Type 0
Markers = BTreeMap ℕ (BTreeSet Key)

-- the key is among these, if there are any
abbrev pub has_key_in : List ℕ → Option (BTreeSet Key) → Bool
has_key_in key None = false
has_key_in key (Some keys) = has_key key keys.keys

-- the key is noted at a timestamp
abbrev pub marked_at : ℕ → List ℕ → Markers → Bool
marked_at ts key markers = has_key_in key (get nat_cmp markers ts)

-- what was noted is noted
abbrev pub AllStay : Markers → Markers → Type 0
AllStay old new = (ts : ℕ) (key : List ℕ) → marked_at ts key old ≡ true → marked_at ts key new ≡ true

-- the same of all keys but this one
abbrev pub OthersStay : List ℕ → Markers → Markers → Type 0
OthersStay key old new = (ts : ℕ) (other : List ℕ) → is_eq (slice_cmp nat_cmp key other) ≡ false → marked_at ts other old ≡ true → marked_at ts other new ≡ true

-- the same of all notes but that of this key at this timestamp
abbrev pub RestStays : ℕ → List ℕ → Markers → Markers → Type 0
RestStays ts key old new = (t : ℕ) (other : List ℕ) → ((ts == t) && is_eq (slice_cmp nat_cmp key other)) ≡ false → marked_at t other old ≡ true → marked_at t other new ≡ true

-- the delete marker's timestamp is at most this, where there is nothing but one
abbrev pub is_by : ℕ → Option (ℕ × ℕ) → Bool
is_by limit None = false
is_by limit (Some version) = leb version.0 limit

module _ {R : Type 0} (s : Words R) where
  -- each row with nothing but a delete marker is noted at its timestamp
  abbrev pub AllMarked : {Z : Type 0} → Markers → List (Vec ℕ Z × Placed R) → Type 0
  AllMarked markers rows = (key : List ℕ) (placed : Placed R) (version : ℕ × ℕ) → placed_at key rows ≡ Some placed → s.marker placed.row ≡ Some version → marked_at version.0 key markers ≡ true

  -- there is a row, and it has nothing but such a delete marker
  abbrev pub is_marked : ℕ → Option R → Bool
  is_marked limit None = false
  is_marked limit (Some row) = is_by limit (s.marker row)

  -- the same of the row at a key
  abbrev pub is_marked_at : {Z : Type 0} → ℕ → List (Vec ℕ Z × Placed R) → List ℕ → Bool
  is_marked_at limit rows key = is_marked limit (shelf_find key rows)

-- it is this key, and passes
abbrev pub only_at : List ℕ → (List ℕ → Bool) → List ℕ → Bool
only_at key test other = is_eq (slice_cmp nat_cmp other key) && test other

-- the keys that pass were added, and no others
abbrev pub AddsWhere : (List ℕ → Bool) → BTreeSet Key → BTreeSet Key → Type 0
AddsWhere test old new = (key : List ℕ) → has_key key new.keys ≡ (has_key key old.keys || test key)
