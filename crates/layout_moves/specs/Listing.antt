-- Potentials as a list.
use Rattle.std.specs.Prelude.{ℕ, ℤ, map, List, [], ◌∷◌, ◌++◌}
use Rattle.std.specs.List.{flat_map, range_with_len, enumerate_from}
use Rattle.layout_roles.specs.declared.role.Role.{Role}
use Rattle.layout_roles.specs.Zones.{storage_nodes, zones}
use Rattle.layout_roles.specs.declared.vertex.Vertex.{Vertex}
use Rattle.layout_roles.specs.declared.vertex.Vertex.TheVariants.{Up, Down, Zone, Node, Sink}
use Rattle.layout_moves.specs.Moves.{Potentials}

-- a vertex with its potential
abbrev pub with_potential : Potentials → Vertex → Vertex × ℤ
with_potential potential vertex = (vertex, potential vertex)

-- the vertices of a partition
abbrev pub partition_listing : Potentials → List Role → ℕ → List (Vertex × ℤ)
partition_listing potential roles p =
    with_potential potential (Up p) ∷ with_potential potential (Down p) ∷ map (λ zone. with_potential potential (Zone p zone.0)) (enumerate_from 0 (zones roles))

-- the storage nodes with their potentials
abbrev pub node_listing : Potentials → List Role → List (Vertex × ℤ)
node_listing potential roles = map (λ role. with_potential potential (Node role.node)) (storage_nodes roles)

-- the vertices of so many partitions, the nodes and the sink
unfoldable pub listing : ℕ → Potentials → List Role → List (Vertex × ℤ)
listing count potential roles =
    flat_map (partition_listing potential roles) (range_with_len 0 count) ++ (node_listing potential roles ++ with_potential potential Sink ∷ [])
