-- An assignment and the printed cut without a search: the network is the same in each partition.
use Rattle.std.specs.Prelude.{ℕ, ◌+◌, ◌-◌, ◌*◌, Bool, true, false, cond, ◌&&◌, ◌==◌, nat_lt, min, length, get_or, take, replicate, map, List, [], ◌∷◌, ◌++◌}
use Rattle.std.specs.List.{list_any, filter, flat_map, range_with_len, enumerate_from}
use Rattle.layout_roles.specs.declared.role.Role.{Role}
use Rattle.layout_roles.specs.Zones.{storage_nodes, zones}
use Rattle.layout_roles.specs.Sets.{in_order}
use Rattle.layout_roles.specs.Fits.{room}
use Rattle.layout_roles.specs.Cuts.{Side}
use Rattle.layout_flow.specs.Totals.{total, copies_in}
use Rattle.layout_roles.specs.declared.vertex.Vertex.{Vertex}
use Rattle.layout_roles.specs.declared.vertex.Vertex.TheVariants.{Source, Up, Down, Zone, Node, Sink}

-- what the zones have room for, where each gets so many copies of a partition at most
abbrev pub copies_for : ℕ → List Role → ℕ → ℕ → ℕ
copies_for count roles size each = total count (copies_in count size) each (zones roles)

-- down is held where keeping it out would cost strictly more
abbrev pub down_is_held : ℕ → List Role → ℕ → ℕ → Bool
down_is_held count roles r size = nat_lt (copies_for count roles size (4 - r)) ((3 - r) * count + copies_for count roles size 1)

-- how many copies of a partition flow to a zone that is kept out
abbrev pub to_zone : ℕ → Bool → ℕ
to_zone r down = cond down (4 - r) 1

-- a zone is held where keeping it out would cost strictly more
abbrev pub zone_is_held : ℕ → ℕ → ℕ → List Role → Bool
zone_is_held count size each zone = nat_lt (copies_in count size zone) (each * count)

-- a node is held where its zone is, and keeping it out would cost strictly more
abbrev pub node_is_held : ℕ → ℕ → ℕ → ℕ → List Role → Bool
node_is_held count size each node zone = zone_is_held count size each zone && list_any (λ role. (role.node == node) && nat_lt (room size role) count) zone

-- which vertices stand on the source's side of the cut
abbrev pub held : ℕ → List Role → ℕ → ℕ → ℕ → Bool → Side
held count roles r size each down Source = true
held count roles r size each down (Up p) = nat_lt p count
held count roles r size each down (Down p) = down && nat_lt p count
held count roles r size each down (Zone p i) = nat_lt p count && (nat_lt i (length (zones roles)) && zone_is_held count size each (get_or (zones roles) i []))
held count roles r size each down (Node node) = list_any (node_is_held count size each node) (zones roles)
held count roles r size each down Sink = false

-- the set of the printed cut, where no assignment fits
abbrev pub printed_side : ℕ → List Role → ℕ → ℕ → Side
printed_side count roles r size =
    held count roles r size (to_zone r (down_is_held count roles r size)) (down_is_held count roles r size)

-- a node's copies: one for each partition that it has room for
abbrev pub copies_of : ℕ → ℕ → Role → List ℕ
copies_of count size role = replicate (min count (room size role)) role.node

-- the copies of a zone's nodes, cut to so many of each partition
abbrev pub zone_copies : ℕ → ℕ → ℕ → List Role → List ℕ
zone_copies count size each zone = take (each * count) (flat_map (copies_of count size) zone)

-- all copies in order of zones and nodes, cut to three of each partition
abbrev pub all_copies : ℕ → List Role → ℕ → ℕ → List ℕ
all_copies count roles size each = take (3 * count) (flat_map (zone_copies count size each) (zones roles))

-- the copies stand in three rows, and a partition's set in one column
abbrev pub column : ℕ → List ℕ → ℕ → List ℕ
column count copies p = in_order (get_or copies p 0) (get_or copies (count + p) 0) (get_or copies (2 * count + p) 0)

-- the sets of all partitions, where each node stands in as many as it has copies
unfoldable pub columns : ℕ → List ℕ → List (List ℕ)
columns count copies = map (column count copies) (range_with_len 0 count)

-- the numbers of the zones that are held
abbrev pub held_zones : ℕ → ℕ → ℕ → List (List Role) → List ℕ
held_zones count size each zones = map (λ zone. zone.0) (filter (λ zone. zone_is_held count size each zone.1) (enumerate_from 0 zones))

-- the vertices of a partition that are held
abbrev pub held_in : Bool → List ℕ → ℕ → List Vertex
held_in down numbers p = Up p ∷ (cond down (Down p ∷ []) [] ++ map (Zone p) numbers)

-- the vertices of so many partitions that are held
unfoldable pub held_in_all : ℕ → Bool → List ℕ → List Vertex
held_in_all count down numbers = flat_map (held_in down numbers) (range_with_len 0 count)

-- the nodes that are held
abbrev pub held_nodes : ℕ → ℕ → ℕ → List (List Role) → List Role → List Vertex
held_nodes count size each zones roles = map (λ role. Node role.node) (filter (λ role. list_any (node_is_held count size each role.node) zones) (storage_nodes roles))

-- all that is held, in order
abbrev pub held_list : ℕ → ℕ → ℕ → Bool → List (List Role) → List Role → List Vertex
held_list count size each down zones roles = (Source ∷ held_in_all count down (held_zones count size each zones)) ++ held_nodes count size each zones roles
