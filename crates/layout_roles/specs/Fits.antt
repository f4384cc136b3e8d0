-- Which assignments fit a partition size, and which size is the greatest.
use Rattle.std.specs.Prelude.{◌≡◌, ℕ, ◌+◌, ◌/◌, ◌≤◌, nat_eq, ◌==◌, IsTrue, length, get_or, List, [], Bool}
use Rattle.std.specs.List.{filter, list_any, count_by, All, IsDistinct}
use Rattle.layout_roles.specs.declared.role.Role.{Role}
use Rattle.layout_roles.specs.Zones.{storage_nodes, zone_names, capacity_of}

-- how many partitions there are
unfoldable pub partitions : ℕ
partitions = 256

-- the three nodes that keep a partition
abbrev pub NodeSet : Type 0
NodeSet = List ℕ

-- the set that an assignment gives a partition
abbrev pub set_at : List NodeSet → ℕ → NodeSet
set_at sets p = get_or sets p []

-- a node is in a set
abbrev pub has_node : ℕ → NodeSet → Bool
has_node node set = list_any (nat_eq node) set

-- a node has a role with capacity
abbrev pub is_storage_node : List Role → ℕ → Bool
is_storage_node roles node = list_any (λ role. role.node == node) (storage_nodes roles)

-- three different storage nodes
pub record IsThree (roles : List Role) (set : NodeSet) : Type 0 where
  pub three : length set ≡ 3
  pub different : IsDistinct nat_eq set
  pub stored : All (λ node. IsTrue (is_storage_node roles node)) set

-- the zones in which the nodes of a set lie
abbrev pub zones_of : List Role → NodeSet → List (List ℕ)
zones_of roles set = zone_names (filter (λ role. has_node role.node set) roles)

-- how many partitions a node keeps
abbrev pub load : List NodeSet → ℕ → ℕ
load sets node = count_by (has_node node) sets

-- how many partitions of a size a node has room for
abbrev pub room : ℕ → Role → ℕ
room size role = capacity_of role / size

-- an assignment of so many partitions: three different storage nodes each, in at least r zones, and no node past its room
pub record FitsAll (count : ℕ) (roles : List Role) (r size : ℕ) (sets : List NodeSet) : Type 0 where
  pub whole : length sets ≡ count
  pub threes : All (IsThree roles) sets
  pub spread : All (λ set. r ≤ length (zones_of roles set)) sets
  pub within : All (λ role. load sets role.node ≤ room size role) (storage_nodes roles)

-- these sets, one for each of the 256 partitions, fit the roles, the redundancy and the partition size
abbrev pub Fits : List Role → ℕ → ℕ → List NodeSet → Type 0
Fits = FitsAll partitions

-- some assignment fits
abbrev pub SomeFits : List Role → ℕ → ℕ → Type 0
SomeFits roles r size = (sets : List NodeSet) × Fits roles r size sets

-- no assignment of any kind fits
abbrev pub NoneFits : List Role → ℕ → ℕ → Type 0
NoneFits roles r size = (sets : List NodeSet) → Fits roles r size sets → ⊥

-- the assignment fits the size, and none fits a size that is greater by one
pub record IsGreatest (roles : List Role) (r size : ℕ) (sets : List NodeSet) : Type 0 where
  pub fits : Fits roles r size sets
  pub greatest : NoneFits roles r (size + 1)
