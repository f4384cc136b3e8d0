-- Values by their times.
use Rattle.std.specs.Prelude.{ℕ, suc, nat_eq, Some}
use Rattle.std.specs.Ordering.{nat_cmp}
use Rattle.crdt_core.specs.declared.max.Max.{Max}
use Rattle.crdt_core.specs.Map.{MapOf, map_from}
use Rattle.k2v_rows.specs.declared.value.K2vValue.{K2vValue}

-- values by their times
abbrev pub ValueMap : Type 0
ValueMap = MapOf nat_cmp nat_eq (λ m n. Some (nat_cmp m n)) (Max K2vValue)

-- the values whose times are above d
abbrev pub later_values : ℕ → ValueMap → ValueMap
later_values d m = map_from (suc d) m
