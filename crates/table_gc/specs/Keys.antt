-- The numbers of open collections by the keys of their rows.
use Rattle.std.specs.Prelude.{◌≡◌, ℕ, ◌==◌, not, nat_eq, cond, Bool, List, [], ◌∷◌, ◌++◌, Option, Some, None, map}
use Rattle.std.specs.Global.{Vec}
use Rattle.std.specs.List.{filter}
use Rattle.std.specs.Map.{lookup}
use Rattle.std.specs.BTreeMap.{BTreeMap, is_at}
use Rattle.std.specs.Ordering.{nat_cmp}
use Rattle.std.specs.Cmp.Lexicographic.{pointwise, slice_cmp}
use Rattle.gc_model.specs.declared.collection.Collection.{Collection}
use Rattle.gc_model.specs.Collecting.{IsNumbered, number_of}

-- a row's key, with the numbers of its open collections
abbrev pub Keys : Type 0
Keys = BTreeMap (Vec ℕ) (Vec ℕ)

-- the numbers, if there are any
abbrev pub numbers_in : Option (Vec ℕ) → List ℕ
numbers_in None = []
numbers_in (Some numbers) = numbers.items

-- the numbers that stand at a key
abbrev pub numbers_at : List ℕ → Keys → List ℕ
numbers_at key keys = numbers_in (lookup (is_at (λ k. slice_cmp nat_cmp key k.items)) keys.entries)

-- one number more stands at a key
abbrev pub Adds : List ℕ → ℕ → Keys → Keys → Type 0
Adds key number old new = (other : List ℕ) → numbers_at other new ≡ cond (pointwise nat_eq key other) (numbers_at other old ++ number ∷ []) (numbers_at other old)

-- one number less does
abbrev pub Removes : List ℕ → ℕ → Keys → Keys → Type 0
Removes key number old new = (other : List ℕ) → numbers_at other new ≡ cond (pointwise nat_eq key other) (filter (λ n. not (n == number)) (numbers_at other old)) (numbers_at other old)

-- the collection is of the row with this key
abbrev pub is_of : List ℕ → Collection → Bool
is_of key c = pointwise nat_eq c.key key

-- at each key stand the numbers of its open collections, in order
abbrev pub AreKeyed : Keys → List Collection → Type 0
AreKeyed keys cs = (key : List ℕ) → numbers_at key keys ≡ map number_of (filter (is_of key) cs)

-- the open collections have their numbers, and are found by their keys
pub record AreOpen (begun : ℕ) (cs : List Collection) (keys : Keys) : Type 0 where
  pub numbered : IsNumbered begun cs
  pub keyed : AreKeyed keys cs
