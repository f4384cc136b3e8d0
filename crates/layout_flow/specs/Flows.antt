-- Flows of a network.
use Rattle.std.specs.Prelude.{◌≡◌, ℕ, ◌≤◌, Bool, true, false, cond, ◌&&◌, ◌==◌, List}
use Rattle.std.specs.List.{sum_by, All}
use Rattle.layout_roles.specs.Network.{Edge}
use Rattle.layout_roles.specs.declared.vertex.Vertex.{Vertex}
use Rattle.layout_roles.specs.declared.vertex.Vertex.TheVariants.{Source, Up, Down, Zone, Node, Sink}

-- two vertices are one
abbrev pub same_vertex : Vertex → Vertex → Bool
same_vertex Source Source = true
same_vertex (Up p) (Up q) = p == q
same_vertex (Down p) (Down q) = p == q
same_vertex (Zone p i) (Zone q j) = (p == q) && (i == j)
same_vertex (Node m) (Node n) = m == n
same_vertex Sink Sink = true
same_vertex _ _ = false

-- how much goes from one vertex to another
abbrev pub Flow : Type 0
Flow = Vertex → Vertex → ℕ

-- how much of a flow an edge carries
abbrev pub carried : Flow → Edge → ℕ
carried flow edge = flow edge.from edge.to

-- how much leaves a vertex
abbrev pub out_of : List Edge → Flow → Vertex → ℕ
out_of network flow vertex = sum_by (λ edge. cond (same_vertex edge.from vertex) (carried flow edge) 0) network

-- how much comes to a vertex
abbrev pub into : List Edge → Flow → Vertex → ℕ
into network flow vertex = sum_by (λ edge. cond (same_vertex edge.to vertex) (carried flow edge) 0) network

-- no edge carries more than its capacity, and what comes to a vertex between source and sink leaves it
pub record IsFlow (network : List Edge) (flow : Flow) : Type 0 where
  pub within : All (λ edge. carried flow edge ≤ edge.capacity) network
  pub kept : (vertex : Vertex) → same_vertex vertex Source ≡ false → same_vertex vertex Sink ≡ false → into network flow vertex ≡ out_of network flow vertex

-- how much leaves the source
abbrev pub value : List Edge → Flow → ℕ
value network flow = out_of network flow Source

-- no flow carries more
pub record IsGreatestFlow (network : List Edge) (flow : Flow) : Type 0 where
  pub is_flow : IsFlow network flow
  pub greatest : (other : Flow) → IsFlow network other → value network other ≤ value network flow
