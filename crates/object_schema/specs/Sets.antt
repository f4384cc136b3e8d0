-- Sets of values, as maps whose keys they are.
use Rattle.std.specs.Prelude.{List, map}
use Rattle.std.specs.declared.cmp.Ord as ord
use Rattle.std.specs.declared.cmp.PartialEq as partial_eq
use Rattle.std.specs.declared.cmp.PartialOrd as partial_ord
use Rattle.crdt_core.specs.declared.map.Map.{Map}
use Rattle.crdt_core.specs.Map.{map_entries}

-- the values in ascending order
abbrev pub keys_of : {K V : Type 0} {o : ord.Ghosts K} {p : partial_eq.Ghosts K} {q : partial_ord.Ghosts K} → Map K V o p q → List K
keys_of m = map (λ e. e.0) (map_entries m)
