-- Prices of nodes, and sets that are cheap at them.
use Rattle.std.specs.Prelude.{◌≡◌, ℕ, pos, ◌-ℤ◌, ◌+◌, ◌<◌, ◌≤◌, Bool, not, cond, ◌&&◌, ◌||◌, ◌==◌, nat_lt, IsTrue, max, get_or, List, [], ◌∷◌}
use Rattle.std.specs.List.{sum_by, count_by, list_any, filter, All}
use Rattle.layout_roles.specs.declared.role.Role.{Role}
use Rattle.layout_roles.specs.Zones.{storage_nodes, zones}
use Rattle.layout_roles.specs.Fits.{NodeSet, has_node, load, room, IsThree, set_at}
use Rattle.layout_roles.specs.declared.vertex.Vertex.TheVariants.{Source, Up, Down, Zone, Node, Sink}
use Rattle.layout_moves.specs.Moves.{Potentials}

-- how many nodes of a set lie in a zone
abbrev pub kept : NodeSet → List Role → ℕ
kept set zone = count_by (λ role. has_node role.node set) zone

-- the node lies in the zone
abbrev pub lies : List Role → ℕ → Bool
lies zone node = list_any (λ role. role.node == node) zone

-- three different storage nodes, and not too many in a zone
pub record IsBase (roles : List Role) (each : ℕ) (set : NodeSet) : Type 0 where
  pub three : IsThree roles set
  pub few : All (λ zone. kept set zone ≤ each) (zones roles)

-- a copy that leaves one node may go into the zone: the zone keeps fewer than it may, or the copy was there
abbrev pub is_open : ℕ → NodeSet → ℕ → List Role → Bool
is_open each set out zone = nat_lt (kept set zone) each || lies zone out

-- the node lies in a zone into which a copy that leaves the other may go, and the set hasn't it
abbrev pub may_take : ℕ → NodeSet → ℕ → List (List Role) → ℕ → Bool
may_take each set out zones node = list_any (λ zone. is_open each set out zone && lies zone node) zones && not (has_node node set)

-- what a node asks for a copy: its price, and a fee where the old set hasn't the node
abbrev pub asked : ℕ → NodeSet → List ℕ → ℕ → ℕ
asked fee old prices node = get_or prices node 0 + cond (has_node node old) 0 fee

-- no copy of the set could move to a node that asks less by more than the slack
abbrev pub IsCheap : ℕ → ℕ → List (List Role) → (ℕ → ℕ) → NodeSet → Type 0
IsCheap slack each zones asks set = All (λ out. (node : ℕ) → IsTrue (may_take each set out zones node) → asks out ≤ asks node + slack) set

-- one node's copy gave way to another's
pub record IsSwap (set : NodeSet) (out new : ℕ) (after : NodeSet) : Type 0 where
  pub sums : (f : ℕ → ℕ) → sum_by f after + f out ≡ sum_by f set + f new

-- what the dearest of some nodes asks
abbrev pub dearest : (ℕ → ℕ) → List ℕ → ℕ
dearest asks [] = 0
dearest asks (node ∷ nodes) = max (asks node) (dearest asks nodes)

-- what a zone has to ask: as much as the dearest copy that could come to it
abbrev pub level : ℕ → (ℕ → ℕ) → NodeSet → List Role → ℕ
level each asks set zone = cond (nat_lt (kept set zone) each) (dearest asks set) (dearest asks (filter (lies zone) set))

-- a node that has a price keeps as many partitions as it has room for, at least
abbrev pub AreCovered : List Role → ℕ → List NodeSet → List ℕ → Type 0
AreCovered roles size sets prices = All (λ role. 0 < get_or prices role.node 0 → room size role ≤ load sets role.node) (storage_nodes roles)

-- the potentials of prices, below one that all are taken from
abbrev pub potential : List Role → ℕ → List NodeSet → List NodeSet → List ℕ → ℕ → Potentials
potential roles each old sets prices top Source = pos 0
potential roles each old sets prices top (Up p) = pos top -ℤ pos (dearest (asked 1 (set_at old p) prices) (set_at sets p))
potential roles each old sets prices top (Down p) = pos top -ℤ pos (dearest (asked 1 (set_at old p) prices) (set_at sets p))
potential roles each old sets prices top (Zone p i) = pos top -ℤ pos (level each (asked 1 (set_at old p) prices) (set_at sets p) (get_or (zones roles) i []))
potential roles each old sets prices top (Node node) = pos top -ℤ pos (get_or prices node 0)
potential roles each old sets prices top Sink = pos top
