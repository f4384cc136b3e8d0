-- When a row is kept in each of the sets of consecutive versions.
use Rattle.std.specs.Prelude.{ℕ, zero, suc, ◌-◌, ◌==◌, Bool, true, false, ◌&&◌, List, [], ◌∷◌, ◌++◌, drop}
use Rattle.std.specs.List.{list_all, list_any}
use Rattle.crdt_core.specs.Members.{two_pass}

-- n is one of these nodes
abbrev pub is_among : ℕ → List ℕ → Bool
is_among n nodes = list_any (λ m. m == n) nodes

-- two of the places of a set are among these nodes
abbrev pub two_of : List ℕ → List ℕ → Bool
two_of set nodes = two_pass (λ n. is_among n nodes) set

-- there is a set at all
abbrev pub is_some_set : {A : Type 0} → List A → Bool
is_some_set [] = false
is_some_set (s ∷ ss) = true

-- the sets are those of the versions `first`, `first` + 1 and so on: some set has a version of at least `from`, and
-- two nodes of each such set are among these
abbrev pub reached : ℕ → List (List ℕ) → List ℕ → ℕ → Bool
reached first sets nodes from =
    let later = drop (from - first) sets in is_some_set later && list_all (λ set. two_of set nodes) later

-- one row of a store phase
pub record StoreSlot : Type 0 where
  pub first : ℕ  -- the version of the first set
  pub sets : List (List ℕ)  -- of consecutive versions
  pub nodes : List ℕ  -- the nodes that have confirmed, in order

-- all rows of a store phase are kept
abbrev pub is_kept : List StoreSlot → ℕ → Bool
is_kept slots from = list_all (λ s. reached s.first s.sets s.nodes from) slots

-- a node confirms the slot at a place, counted from 0. An unknown place changes nothing
abbrev pub with_confirmation : List StoreSlot → ℕ → ℕ → List StoreSlot
with_confirmation [] place node = []
with_confirmation (s ∷ ss) zero node = record s { nodes = s.nodes ++ node ∷ [] } ∷ ss
with_confirmation (s ∷ ss) (suc place) node = s ∷ with_confirmation ss place node
