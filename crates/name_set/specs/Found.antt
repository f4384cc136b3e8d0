-- Names, and the set in which they are found.
use Rattle.std.specs.Prelude.{◌≡◌, ℕ, Bool, List, Vec, nat_eq}
use Rattle.std.specs.List.{list_any}
use Rattle.std.specs.Ordering.{nat_cmp}
use Rattle.std.specs.Cmp.Lexicographic.{pointwise, slice_cmp}
use Rattle.std.specs.BTreeSet.{BTreeSet, contains_by}

-- the name is one of these
abbrev pub has_name : List ℕ → List (List ℕ) → Bool
has_name name names = list_any (pointwise nat_eq name) names

module _ {Z : Type 0} where
  -- the set has the name
  abbrev pub finds : List ℕ → BTreeSet (Vec ℕ Z) → Bool
  finds name known = contains_by (λ k. slice_cmp nat_cmp name k.items) known

  -- the set has just these names
  abbrev pub AreFound : BTreeSet (Vec ℕ Z) → List (List ℕ) → Type 0
  AreFound known names = (name : List ℕ) → finds name known ≡ has_name name names
