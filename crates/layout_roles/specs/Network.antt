-- The flow network of roles, a redundancy and a partition size.
use Rattle.std.specs.Prelude.{ℕ, ◌-◌, map, List, [], ◌∷◌, ◌++◌}
use Rattle.std.specs.List.{flat_map, range_with_len, enumerate_from}
use Rattle.layout_roles.specs.declared.role.Role.{Role}
use Rattle.layout_roles.specs.Zones.{storage_nodes, zones}
use Rattle.layout_roles.specs.Fits.{room, partitions}
use Rattle.layout_roles.specs.declared.vertex.Vertex.{Vertex}
use Rattle.layout_roles.specs.declared.vertex.Vertex.TheVariants.{Source, Up, Down, Zone, Node, Sink}

-- an edge of the network, and how much it carries at most
pub record Edge : Type 0 where
  pub from : Vertex
  pub to : Vertex
  pub capacity : ℕ

-- the edge between two vertices
abbrev pub edge : Vertex → Vertex → ℕ → Edge
edge from to capacity = record { from = from; to = to; capacity = capacity }

-- the edges of a partition to and from the zone with this number and these nodes
abbrev pub zone_edges : ℕ → ℕ → ℕ × List Role → List Edge
zone_edges r p zone =
    edge (Up p) (Zone p zone.0) 1 ∷ edge (Down p) (Zone p zone.0) (3 - r) ∷
    map (λ role. edge (Zone p zone.0) (Node role.node) 1) zone.1

-- the edges of partition p: into its two halves, from them to its zones, and on to nodes
abbrev pub partition_edges : List Role → ℕ → ℕ → List Edge
partition_edges roles r p =
    edge Source (Up p) r ∷ edge Source (Down p) (3 - r) ∷
    flat_map (zone_edges r p) (enumerate_from 0 (zones roles))

-- the edge on which a node's copies end: as many as it has room for
abbrev pub node_edge : ℕ → Role → Edge
node_edge size role = edge (Node role.node) Sink (room size role)

-- the network of so many partitions, as its edges
unfoldable pub network_of : ℕ → List Role → ℕ → ℕ → List Edge
network_of count roles r size =
    flat_map (partition_edges roles r) (range_with_len 0 count) ++ map (node_edge size) (storage_nodes roles)

-- the network of all 256 partitions
abbrev pub network : List Role → ℕ → ℕ → List Edge
network = network_of partitions

-- the vertices of partition p
abbrev pub partition_vertices : List Role → ℕ → List Vertex
partition_vertices roles p = Up p ∷ Down p ∷ map (λ zone. Zone p zone.0) (enumerate_from 0 (zones roles))

-- the vertices of the network of so many partitions
unfoldable pub vertices_of : ℕ → List Role → List Vertex
vertices_of count roles =
    (Source ∷ flat_map (partition_vertices roles) (range_with_len 0 count)) ++
    (map (λ role. Node role.node) (storage_nodes roles) ++ Sink ∷ [])

-- all vertices of the network
abbrev pub vertices : List Role → List Vertex
vertices = vertices_of partitions
