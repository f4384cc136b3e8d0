-- What the keys of a configuration hold, where it is of the right type and in its range.
use Rattle.std.specs.Prelude.{ℕ, ◌^◌, min, ℤ, pos, negsuc, Bool, true, false, not, ◌&&◌, ◌==◌, if◌then◌else◌, List, [], ◌∷◌, ◌++◌, codes, Option, Some, None, option_map, option_and_then, unwrap_or}
use Rattle.std.specs.List.{list_any}
use Rattle.toml.specs.Data.{Data, string, Items, no_items, item, Members, get_member, as_str, as_integer, as_bool, as_array, as_table}
use Rattle.layout_roles.specs.declared.redundancy.Redundancy.{Redundancy}
use Rattle.layout_roles.specs.declared.redundancy.Redundancy.TheVariants.{AtLeast, Maximum}
use Rattle.layout_roles.specs.declared.role.Kind.{Kind}
use Rattle.layout_roles.specs.declared.role.Kind.TheVariants.{Storage, Gateway}
use Rattle.layout_roles.specs.declared.role.Role.{Role}
use Rattle.layout_roles.specs.Zones.{same_name}
use Rattle.layout_roles.specs.Names.{is_between, is_bucket_name, is_zone_name}

-- the value, where it may be kept
abbrev pub keep_if : {A : Type 0} → Bool → A → Option A
keep_if true x = Some x
keep_if false x = None

-- what is read of the value at a key, or the default where the key is missing
abbrev pub read_or : {A : Type 0} → A → (Data → Option A) → Option Data → Option A
read_or default read None = Some default
read_or default read (Some value) = read value

-- the number, where it is in a range
abbrev pub between : ℕ → ℕ → ℤ → Option ℕ
between low high (pos n) = keep_if (is_between low high n) n
between low high (negsuc n) = None

-- a whole number from low to high
abbrev pub number_in : ℕ → ℕ → Data → Option ℕ
number_in low high value = option_and_then (between low high) (as_integer value)

-- 1, 2, 3 or "maximum"
abbrev pub redundancy_of : Data → Option Redundancy
redundancy_of (string word) = keep_if (same_name word (codes "maximum")) Maximum
redundancy_of value = option_map AtLeast (number_in 1 3 value)

-- the redundancy of a configuration, or the default
abbrev pub redundancy_in : Members → Option Redundancy
redundancy_in root = read_or Maximum redundancy_of (get_member (codes "redundancy") root)

-- a bucket's name that none before it has
abbrev pub bucket_of : List (List ℕ) → Data → Option (List ℕ)
bucket_of before value = option_and_then (λ name. keep_if (is_bucket_name name && not (list_any (same_name name) before)) name) (as_str value)

-- the names before, and those of the items after them
abbrev pub buckets_of : List (List ℕ) → Items → Option (List (List ℕ))
buckets_of before no_items = Some before
buckets_of before (item value items) = option_and_then (λ name. buckets_of (before ++ name ∷ []) items) (bucket_of before value)

-- a list of names of buckets, each once
abbrev pub buckets_in : Members → Option (List (List ℕ))
buckets_in root = option_and_then (buckets_of []) (option_and_then as_array (get_member (codes "buckets") root))

-- in bytes
abbrev pub default_block_size : ℕ
default_block_size = 1048576

-- the block size of a configuration, or the default
abbrev pub block_size_in : Members → Option ℕ
block_size_in root = read_or default_block_size (number_in 16 1048576) (get_member (codes "block_size") root)

-- one table more, where there is one
abbrev pub with_table : Option Members → Option (List Members) → Option (List Members)
with_table (Some table) (Some tables) = Some (table ∷ tables)
with_table _ _ = None

-- the items, where each is a table
abbrev pub tables_of : Items → Option (List Members)
tables_of no_items = Some []
tables_of (item value items) = with_table (as_table value) (tables_of items)

-- the tables of the nodes
abbrev pub nodes_in : Members → Option (List Members)
nodes_in root = option_and_then tables_of (option_and_then as_array (get_member (codes "node") root))

-- a node of this number was given a role already
abbrev pub is_taken : List Role → ℕ → Bool
is_taken roles id = list_any (λ role. role.node == id) roles

-- a number from 1 up to the greatest, and 64 at most, that no node before it has
abbrev pub id_in : ℕ → List Role → Members → Option ℕ
id_in greatest before node =
    option_and_then (λ id. keep_if (not (is_taken before id)) id) (option_and_then (number_in 1 (min greatest 64)) (get_member (codes "id") node))

-- the zone's name that a value gives
abbrev pub zone_of : Data → Option (List ℕ)
zone_of value = option_and_then (λ name. keep_if (is_zone_name name) name) (as_str value)

-- the zone's name of one node's table
abbrev pub zone_in : Members → Option (List ℕ)
zone_in node = option_and_then zone_of (get_member (codes "zone") node)

-- whether it is `true`
abbrev pub is_set : Option Data → Bool
is_set found = unwrap_or (option_and_then as_bool found) false

-- a gateway has no capacity
abbrev pub without_capacity : Option Data → Option Kind
without_capacity None = Some Gateway
without_capacity (Some value) = None

-- 1 byte to 2 ^ 50
abbrev pub with_capacity : Option Data → Option Kind
with_capacity found = option_map Storage (option_and_then (number_in 1 (2 ^ 50)) found)

-- either a gateway, or a capacity
abbrev pub kind_in : Members → Option Kind
kind_in node =
    if is_set (get_member (codes "gateway") node) then without_capacity (get_member (codes "capacity") node) else with_capacity (get_member (codes "capacity") node)
