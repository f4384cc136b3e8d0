-- Storage nodes, and the zones that have one.
use Rattle.std.specs.Prelude.{ℕ, Bool, true, false, cond, ◌&&◌, nat_eq, nat_lt, nat_le, map, List, [], ◌∷◌}
use Rattle.std.specs.List.{fold, filter, list_all, list_any}
use Rattle.std.specs.Ordering.{nat_cmp, is_lt}
use Rattle.std.specs.Cmp.Lexicographic.{pointwise, slice_cmp}
use Rattle.layout_roles.specs.declared.role.Role.{Role}
use Rattle.layout_roles.specs.declared.role.Kind.{Kind}
use Rattle.layout_roles.specs.declared.role.Kind.TheVariants.{Storage, Gateway}

-- the name of a zone, as bytes
abbrev pub Name : Type 0
Name = List ℕ

-- the name of a role's zone
abbrev pub name_of : Role → Name
name_of role = role.zone.0

-- each node is above the one before it
abbrev pub ascend_from : ℕ → List Role → Bool
ascend_from before [] = true
ascend_from before (role ∷ roles) = nat_lt before role.node && ascend_from role.node roles

-- nodes are 1 and up, in order, each once
abbrev pub nodes_ascend : List Role → Bool
nodes_ascend roles = ascend_from 0 roles

-- a node is 64 at most
abbrev pub is_numbered : Role → Bool
is_numbered role = nat_le role.node 64

-- each number is above those before it
abbrev pub set_ascends : List ℕ → Bool
set_ascends [] = true
set_ascends (n ∷ ns) = list_all (nat_lt n) ns && set_ascends ns

-- this kind of role stores, a gateway doesn't
abbrev pub keeps_copies : Kind → Bool
keeps_copies (Storage capacity) = true
keeps_copies Gateway = false

-- a role's capacity in bytes, none for a gateway
abbrev pub bytes_of : Kind → ℕ
bytes_of (Storage capacity) = capacity
bytes_of Gateway = 0

-- a gateway is no storage node
abbrev pub is_storage : Role → Bool
is_storage role = keeps_copies role.kind

-- in bytes
abbrev pub capacity_of : Role → ℕ
capacity_of role = bytes_of role.kind

-- the roles that store
abbrev pub storage_nodes : List Role → List Role
storage_nodes roles = filter is_storage roles

-- before the first name that is greater
abbrev pub put_in_order : List Name → Name → List Name
put_in_order [] name = name ∷ []
put_in_order (first ∷ names) name = cond (is_lt (slice_cmp nat_cmp name first)) (name ∷ first ∷ names) (first ∷ put_in_order names name)

-- two zones have one name
abbrev pub same_name : Name → Name → Bool
same_name = pointwise nat_eq

-- a name that is there already isn't put in again
abbrev pub with_name : List Name → Name → List Name
with_name names name = cond (list_any (same_name name) names) names (put_in_order names name)

-- the names of the zones that have a storage node, in order, each once
abbrev pub zone_names : List Role → List Name
zone_names roles = fold with_name [] (map name_of (storage_nodes roles))

-- a role's zone has this name
abbrev pub is_in_zone : Name → Role → Bool
is_in_zone name role = same_name (name_of role) name

-- the storage nodes of a zone
abbrev pub nodes_in : List Role → Name → List Role
nodes_in roles name = filter (is_in_zone name) (storage_nodes roles)

-- the storage nodes, zone by zone in order of names
abbrev pub zones : List Role → List (List Role)
zones roles = map (nodes_in roles) (zone_names roles)
