-- The writes of one node, and how two reports of them merge.
use Rattle.std.specs.Prelude.{◌≡◌, ℕ, Bool, true, false, refl}
use Rattle.std.specs.Ordering.{nat_cmp}
use Rattle.crdt_core.specs.declared.max.Max.{Max}
use Rattle.crdt_core.specs.Max.{max_join}
use Rattle.crdt_core.specs.Map.{map_entries, map_join}
use Rattle.k2v_rows.specs.declared.writes.Writes.{Writes}
use Rattle.k2v_rows.specs.Later.{are_later, greatest_from}
use Rattle.k2v_rows.specs.Value.{value_cmp}
use Rattle.k2v_rows.specs.Values.{ValueMap, later_values}

-- the greatest of the discard time and the times of the values
abbrev pub greatest_time : Writes → ℕ
greatest_time w = greatest_from w.discard.0 (map_entries w.values)

-- the greater discard time
abbrev pub joined_discard : Writes → Writes → Max ℕ
joined_discard a b = max_join nat_cmp a.discard b.discard

-- the values of both, each time's greatest, but those up to the greater discard time
abbrev pub joined_values : Writes → Writes → ValueMap
joined_values a b = later_values (joined_discard a b).0 (map_join (max_join value_cmp) a.values b.values)

-- the writes with this discard time and these values, or the other writes where a value isn't after the discard time
abbrev pub writes_of : (d : Max ℕ) (m : ValueMap) (s : Bool) → are_later d.0 (map_entries m) ≡ s → Writes → Writes
writes_of d m true h other = record { discard = d; values = m; kept = h }
writes_of d m false h other = other

-- the greater discard time and the values of both after it, which are always after it
abbrev pub writes_join : Writes → Writes → Writes
writes_join a b =
    writes_of (joined_discard a b) (joined_values a b) (are_later (joined_discard a b).0 (map_entries (joined_values a b))) refl a
