-- The vertices of the network, for storage nodes that are given zone by zone.
use Rattle.std.specs.Prelude.{ℕ, map, List, ◌∷◌}
use Rattle.std.specs.List.{flat_map, enumerate_from, range_with_len}
use Rattle.layout_roles.specs.declared.role.Role.{Role}
use Rattle.layout_roles.specs.declared.vertex.Vertex.{Vertex}
use Rattle.layout_roles.specs.declared.vertex.Vertex.TheVariants.{Up, Down, Zone, Node}
use Rattle.layout_roles.specs.Zones.{storage_nodes}

-- the zones' vertices in partition p
abbrev pub zone_vertices : List (List Role) → ℕ → List Vertex
zone_vertices zones p = map (λ zone. Zone p zone.0) (enumerate_from 0 zones)

-- the vertices of partition p
abbrev pub front_vertices : List (List Role) → ℕ → List Vertex
front_vertices zones p = Up p ∷ Down p ∷ zone_vertices zones p

-- the vertices of all partitions
abbrev pub all_fronts : List (List Role) → List Vertex
all_fronts zones = flat_map (front_vertices zones) (range_with_len 0 256)

-- the storage nodes' vertices
abbrev pub node_vertices : List Role → List Vertex
node_vertices roles = map (λ role. Node role.node) (storage_nodes roles)
