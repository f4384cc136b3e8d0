-- The tests of which `fits` consists, each of which decides a part of what it is for an assignment to fit.
use Rattle.std.specs.Prelude.{ℕ, Bool, false, not, ◌&&◌, ◌||◌, ◌==◌, nat_eq, nat_le, length, List, [], ◌∷◌}
use Rattle.std.specs.List.{list_all, list_any}
use Rattle.layout_roles.specs.declared.role.Role.{Role}
use Rattle.layout_roles.specs.Zones.{is_storage}
use Rattle.layout_roles.specs.Fits.{NodeSet, zones_of, load, room}

-- three nodes of which no two are one
abbrev pub are_apart : NodeSet → Bool
are_apart (a ∷ b ∷ c ∷ []) = not (nat_eq a b) && (not (nat_eq a c) && not (nat_eq b c))
are_apart other = false

-- the node has a role with capacity
abbrev pub is_stored : List Role → ℕ → Bool
is_stored roles node = list_any (λ role. is_storage role && (role.node == node)) roles

-- three different storage nodes
abbrev pub is_three : List Role → NodeSet → Bool
is_three roles set = are_apart set && list_all (is_stored roles) set

-- they lie in at least r zones
abbrev pub is_spread : List Role → ℕ → NodeSet → Bool
is_spread roles r set = is_three roles set && nat_le r (length (zones_of roles set))

-- the node is no storage node, or keeps no more partitions than it has room for
abbrev pub has_room : ℕ → List NodeSet → Role → Bool
has_room size sets role = not (is_storage role) || nat_le (load sets role.node) (room size role)

-- all that it is for an assignment to fit
abbrev pub passes : List Role → ℕ → ℕ → List NodeSet → Bool
passes roles r size sets = nat_eq (length sets) 256 && (list_all (is_spread roles r) sets && list_all (has_room size sets) roles)
