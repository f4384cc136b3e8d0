-- What a table of marks says of each vertex.
use Rattle.std.specs.Prelude.{◌≡◌, ◌<◌, false, get_or, [], List, ⊤}
use Rattle.layout_roles.specs.declared.vertex.Vertex.{Vertex}
use Rattle.layout_roles.specs.declared.vertex.Vertex.TheVariants.{Source, Up, Down, Zone, Node, Sink}
use Rattle.layout_roles.specs.Cuts.{Side}
use Rattle.layout_judge.specs.declared.marks.Table.{Table}
use Rattle.side_model.specs.Sides.{set_of}

-- partitions, zones and nodes are numbers of one byte
abbrev pub IsSmall : Vertex → Type 0
IsSmall Source = ⊤
IsSmall (Up p) = p < 256
IsSmall (Down p) = p < 256
IsSmall (Zone p zone) = (p < 256) × (zone < 256)
IsSmall (Node node) = node < 256
IsSmall Sink = ⊤

-- the vertex is marked
abbrev pub is_marked : Table → Side
is_marked table Source = table.source
is_marked table (Up p) = get_or table.up p false
is_marked table (Down p) = get_or table.down p false
is_marked table (Zone p zone) = get_or (get_or table.zones p []) zone false
is_marked table (Node node) = get_or table.nodes node false
is_marked table Sink = table.sink

-- the table marks exactly the vertices of the list
abbrev pub Marks : Table → List Vertex → Type 0
Marks table vertices = (vertex : Vertex) → IsSmall vertex → is_marked table vertex ≡ set_of vertices vertex
