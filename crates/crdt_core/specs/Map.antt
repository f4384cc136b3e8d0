-- What a map is: its entries in the order of their keys, and what it holds at each key. And the join of two.
use Rattle.std.specs.Prelude.{◌≡◌, Bool, true, false, List, [], ◌∷◌, Option, refl}
use Rattle.std.specs.Borrow.{Bor}
use Rattle.std.specs.declared.cmp.Ordering.{Ordering}
use Rattle.std.specs.declared.cmp.Ord as ord
use Rattle.std.specs.declared.cmp.PartialEq as partial_eq
use Rattle.std.specs.declared.cmp.PartialOrd as partial_ord
use Rattle.crdt_core.specs.declared.map.Map.{Map}
use Rattle.crdt_core.specs.Entries.{is_ascending, merged, value_at, entries_from}

-- the maps from K to V, with the comparisons of K
abbrev pub MapOf : {K : Type 0} → (K → K → Ordering) → (K → K → Bool) → (K → K → Option Ordering) → Type 0 → Type 0
MapOf {K} cmp eq partial_cmp V = Map K V (record { cmp = cmp }) (record { eq = eq }) (record { partial_cmp = partial_cmp })

-- what the two parts of a lent entry point to
abbrev pub entry_now : {K V : Type 0} → Bor K × Bor V → K × V
entry_now e = (e.0.now, e.1.now)

module _ {K V : Type 0} {o : ord.Ghosts K} {p : partial_eq.Ghosts K} {q : partial_ord.Ghosts K} where
  -- the entries in the order of their keys
  abbrev pub map_entries : Map K V o p q → List (K × V)
  map_entries m = m.entries

  -- the value at the key k
  abbrev pub map_get : Map K V o p q → K → Option V
  map_get m k = value_at o.cmp k m.entries

  -- the map with one entry
  abbrev pub map_single : K → V → Map K V o p q
  map_single k v = record { entries = (k, v) ∷ []; ascending = refl }

  -- the map of these entries, or the other map where they do not ascend
  abbrev pub map_of : (es : List (K × V)) (b : Bool) → is_ascending o.cmp es ≡ b → Map K V o p q → Map K V o p q
  map_of es true h m = record { entries = es; ascending = h }
  map_of es false h m = m

  -- the map of the merged entries, which always ascend
  abbrev pub map_join : (V → V → V) → Map K V o p q → Map K V o p q → Map K V o p q
  map_join j a b = let es = merged o.cmp j a.entries b.entries in map_of es (is_ascending o.cmp es) refl a

  -- the map without the entries whose keys are smaller than k
  abbrev pub map_from : K → Map K V o p q → Map K V o p q
  map_from k m = let es = entries_from o.cmp k m.entries in map_of es (is_ascending o.cmp es) refl m
