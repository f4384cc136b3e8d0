-- Maps without entries that are older than the newest final one, and how two of them merge.
use Rattle.std.specs.Prelude.{◌≡◌, Bool, true, false, Option, Some, None, refl}
use Rattle.std.specs.declared.cmp.Ord as ord
use Rattle.std.specs.declared.cmp.PartialEq as partial_eq
use Rattle.std.specs.declared.cmp.PartialOrd as partial_ord
use Rattle.crdt_core.specs.declared.map.Map.{Map}
use Rattle.crdt_core.specs.Map.{map_entries, map_join, map_from}
use Rattle.crdt_rows.specs.Newest.{later, newest_of, is_settled}
use Rattle.crdt_rows.specs.Each.{passes}

-- a map without entries older than the newest final one, whose values all fit
pub record Settled {K V : Type 0} (o : ord.Ghosts K) (p : partial_eq.Ghosts K) (q : partial_ord.Ghosts K) (final fits : V → Bool) : Type 0 where
  pub map : Map K V o p q
  pub settled : is_settled o.cmp final (map_entries map) ≡ true
  pub fit : passes fits (map_entries map) ≡ true

module _ {K V : Type 0} {o : ord.Ghosts K} {p : partial_eq.Ghosts K} {q : partial_ord.Ghosts K} where
  -- the map but the entries whose keys are older than n
  abbrev pub kept_map : Option K → Map K V o p q → Map K V o p q
  kept_map None m = m
  kept_map (Some k) m = map_from k m

  module _ (final fits : V → Bool) where
    -- the newest final key
    abbrev pub newest_in : Map K V o p q → Option K
    newest_in m = newest_of o.cmp final (map_entries m)

    -- the two merged key by key, without what is older than the newest final entry of both
    abbrev pub joined_map : (V → V → V) → Map K V o p q → Map K V o p q → Map K V o p q
    joined_map j a b = kept_map (later o.cmp (newest_in a) (newest_in b)) (map_join j a b)

    -- the map where it is settled and its values fit, else the other
    abbrev pub settled_of : (m : Map K V o p q) (s t : Bool) → is_settled o.cmp final (map_entries m) ≡ s → passes fits (map_entries m) ≡ t → Settled o p q final fits → Settled o p q final fits
    settled_of m true true h g other = record { map = m; settled = h; fit = g }
    settled_of m true false h g other = other
    settled_of m false t h g other = other

    -- what joined_map gives, which is always settled and fits
    abbrev pub settled_join : (V → V → V) → Settled o p q final fits → Settled o p q final fits → Settled o p q final fits
    settled_join j a b = let m = joined_map j a.map b.map in settled_of m (is_settled o.cmp final (map_entries m)) (passes fits (map_entries m)) refl refl a
