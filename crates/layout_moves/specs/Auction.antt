-- Where the auction stands: cheap sets within 1, at prices that only nodes without room left have.
use Rattle.std.specs.Prelude.{◌≡◌, ℕ, ◌+◌, ◌-◌, ◌*◌, ◌<◌, ◌≤◌, Bool, ◌&&◌, ◌||◌, ◌==◌, nat_lt, nat_le, IsTrue, get_or, length, List}
use Rattle.std.specs.List.{sum_by, list_any, list_all, All, range_with_len}
use Rattle.layout_roles.specs.declared.role.Role.{Role}
use Rattle.layout_roles.specs.Zones.{is_storage, storage_nodes, zones, set_ascends}
use Rattle.layout_roles.specs.Fits.{NodeSet, load, room, set_at}
use Rattle.layout_moves.specs.Prices.{IsBase, IsCheap, asked, AreCovered}

-- no price rises above this while an assignment fits
unfoldable pub highest : ℕ
highest = 67072

-- sets that are cheap at the prices: a set of three in each partition, a price for each node of 1 to 64 that isn't above the highest, and no node with a price has room left
pub record IsPriced (roles : List Role) (r size : ℕ) (old sets : List NodeSet) (prices : List ℕ) : Type 0 where
  pub whole : length sets ≡ 256
  pub rows : length prices ≡ 65
  pub bases : All (IsBase roles (4 - r)) sets
  pub ascending : IsTrue (list_all set_ascends sets)
  pub cheap : (p : ℕ) → p < 256 → IsCheap 1 (4 - r) (zones roles) (asked 66 (set_at old p) prices) (set_at sets p)
  pub covered : AreCovered roles size sets prices
  pub low : All (λ role. get_or prices role.node 0 ≤ highest) (storage_nodes roles)

-- the node is a storage node that keeps more partitions than it has room for
abbrev pub is_over : List Role → ℕ → List NodeSet → ℕ → Bool
is_over roles size sets node = list_any (λ role. (is_storage role && nat_lt (room size role) (load sets role.node)) && (role.node == node)) roles

-- how far all prices could rise
abbrev pub left_to_rise : List Role → List ℕ → ℕ
left_to_rise roles prices = sum_by (λ role. highest - get_or prices role.node 0) (storage_nodes roles)

-- what falls with each rise of a price and each move
unfoldable pub unrest : List Role → List NodeSet → List NodeSet → List ℕ → ℕ
unrest roles old sets prices = 257 * left_to_rise roles prices + sum_by (λ p. sum_by (asked 66 (set_at old p) prices) (set_at sets p)) (range_with_len 0 256)

-- 256 sets of three that ascend, each with not too many nodes in a zone
pub record AreBases (roles : List Role) (each : ℕ) (sets : List NodeSet) : Type 0 where
  pub whole : length sets ≡ 256
  pub bases : All (IsBase roles each) sets
  pub ascending : IsTrue (list_all set_ascends sets)

-- a node has no price, or one that isn't above the highest, and no room left
abbrev pub is_fair : ℕ → List NodeSet → List ℕ → Role → Bool
is_fair size sets prices role =
    (get_or prices role.node 0 == 0) || (nat_le (get_or prices role.node 0) highest && nat_le (room size role) (load sets role.node))
