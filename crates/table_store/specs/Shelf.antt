-- The rows of one table, by their keys.
use Rattle.std.specs.Prelude.{◌≡◌, ℕ, ◌==◌, ◌<◌, ◌^◌, Bool, not, ◌&&◌, if◌then◌else◌, nat_eq, nat_lt, IsTrue, List, [], ◌∷◌, ◌++◌, Option, Some, None, All, length, map, filter, take, Vec}
use Rattle.std.specs.List.{starts_with}
use Rattle.std.specs.Map.{lookup, remove_entry}
use Rattle.std.specs.BTreeMap.{BTreeMap, is_at}
use Rattle.std.specs.Ordering.{nat_cmp, is_eq, is_lt}
use Rattle.std.specs.declared.cmp.Ordering.{Ordering}
use Rattle.std.specs.Cmp.Lexicographic.{slice_cmp}
use Rattle.table_schema.specs.Words.{Words, partition_of}
use Rattle.table_store.specs.declared.shelf.Placed.{Placed}
use Rattle.table_store.specs.declared.index.Part.{Part}
use Rattle.table_store.specs.Index.{has_key, keys_under}

-- the row, where it is in partition p
abbrev pub given : {R : Type 0} → ℕ → Option (Placed R) → Option R
given p None = None
given p (Some placed) = if placed.partition == p then Some placed.row else None

module _ {R Z : Type 0} where
  -- the rows in order of their keys
  abbrev pub shelf_rows : List (Vec ℕ Z × Placed R) → List R
  shelf_rows es = map (λ e. e.1.row) es

  -- the row at a key
  abbrev pub shelf_find : List ℕ → List (Vec ℕ Z × Placed R) → Option R
  shelf_find key [] = None
  shelf_find key (e ∷ es) = if is_eq (slice_cmp nat_cmp key e.0.items) then Some e.1.row else shelf_find key es

  -- the row is in this partition
  abbrev pub in_partition : ℕ → Vec ℕ Z × Placed R → Bool
  in_partition p e = e.1.partition == p

  -- what stands at a key
  abbrev pub placed_at : List ℕ → List (Vec ℕ Z × Placed R) → Option (Placed R)
  placed_at key es = lookup (is_at (λ k. slice_cmp nat_cmp key k.items)) es

  -- all but the row at a key
  abbrev pub without_key : List ℕ → List (Vec ℕ Z × Placed R) → List (Vec ℕ Z × Placed R)
  without_key key es = remove_entry (is_at (λ k. slice_cmp nat_cmp key k.items)) es

  -- the same, by a test of each
  abbrev pub others_at : List ℕ → List (Vec ℕ Z × Placed R) → List (Vec ℕ Z × Placed R)
  others_at key es = filter (λ e. not (is_eq (slice_cmp nat_cmp key e.0.items))) es

  -- the row at a key, where it is in partition p
  abbrev pub row_in : ℕ → List ℕ → List (Vec ℕ Z × Placed R) → Option R
  row_in p key es = given p (placed_at key es)

  -- the row stands at this key
  abbrev pub has_key_of : Vec ℕ Z → Vec ℕ Z × Placed R → Bool
  has_key_of key e = is_eq (slice_cmp nat_cmp e.0.items key.items)

  -- the index has the row's key under its partition
  abbrev pub is_indexed : BTreeMap ℕ Part → Vec ℕ Z × Placed R → Bool
  is_indexed index e = has_key e.0.items (keys_under index e.1.partition)

  -- the row stands under its key in its table's shelf, with its partition
  pub record IsPlaced (s : Words R) (table : ℕ) (e : Vec ℕ Z × Placed R) : Type 0 where
    pub proper : IsTrue (s.is_proper e.1.row)
    pub table_is : s.table e.1.row ≡ table
    pub key_is : e.0.items ≡ s.key e.1.row
    pub partition_is : e.1.partition ≡ partition_of s e.1.row

  -- a key of these begins with the prefix
  abbrev pub begins : List ℕ → Vec ℕ Z × Placed R → Bool
  begins prefix e = starts_with nat_eq e.0.items prefix

  -- the row's key begins so and is above this
  abbrev pub is_after : List ℕ → List ℕ → Vec ℕ Z × Placed R → Bool
  is_after prefix after e = begins prefix e && is_lt (slice_cmp nat_cmp after e.0.items)

  -- each row does
  abbrev pub AllPlaced : Words R → ℕ → List (Vec ℕ Z × Placed R) → Type 0
  AllPlaced s table es = All (IsPlaced s table) es

-- the first elements, up to the first that fails the test
abbrev pub leading : {X : Type 0} → (X → Bool) → List X → List X
leading test [] = []
leading test (x ∷ xs) = if test x then x ∷ leading test xs else []

-- the first rows, and whether there are more
abbrev pub window : {R : Type 0} → ℕ → List R → List R × Bool
window limit rows = (take limit rows, nat_lt limit (length rows))

-- the order of keys
abbrev pub vec_cmp : {Z : Type 0} → Vec ℕ Z → Vec ℕ Z → Ordering
vec_cmp x y = slice_cmp nat_cmp x.items y.items

-- the three shelves hold the rows of their tables, and together no more than a number can count
pub record IsSound {R Z : Type 0} (s : Words R) (first second third : List (Vec ℕ Z × Placed R)) : Type 0 where
  pub in_first : AllPlaced s 1 first
  pub in_second : AllPlaced s 2 second
  pub in_third : AllPlaced s 3 third
  pub fits : length (shelf_rows first ++ (shelf_rows second ++ shelf_rows third)) < 2 ^ 64
