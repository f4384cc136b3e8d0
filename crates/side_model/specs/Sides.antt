-- The set of vertices that a list names.
use Rattle.std.specs.Prelude.{List}
use Rattle.std.specs.List.{list_any}
use Rattle.layout_roles.specs.declared.vertex.Vertex.{Vertex}
use Rattle.layout_roles.specs.Cuts.{Side}
use Rattle.layout_flow.specs.Flows.{same_vertex}

-- the set of these vertices
abbrev pub set_of : List Vertex → Side
set_of vertices vertex = list_any (same_vertex vertex) vertices
