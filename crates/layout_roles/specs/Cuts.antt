-- Cuts of a network, and the one that is printed.
use Rattle.std.specs.Prelude.{◌≡◌, ℕ, ◌≤◌, Bool, false, not, cond, ◌&&◌, IsTrue, List}
use Rattle.std.specs.List.{sum_by}
use Rattle.layout_roles.specs.Network.{Edge}
use Rattle.layout_roles.specs.declared.vertex.Vertex.{Vertex}
use Rattle.layout_roles.specs.declared.vertex.Vertex.TheVariants.{Source, Sink}

-- a set of vertices, as a test
abbrev pub Side : Type 0
Side = Vertex → Bool

-- the set has the source and not the sink
pub record IsCut (side : Side) : Type 0 where
  pub source : IsTrue (side Source)
  pub sink : side Sink ≡ false

-- an edge leads from the cut's side to the other one
abbrev pub leaves : Side → Edge → Bool
leaves side edge = side edge.from && not (side edge.to)

-- the capacities of the edges that leave the set, added up
abbrev pub weight : List Edge → Side → ℕ
weight network side = sum_by (λ edge. cond (leaves side edge) edge.capacity 0) network

-- the cut of least weight whose set lies in the set of every cut of least weight
pub record IsPrinted (network : List Edge) (side : Side) : Type 0 where
  pub cut : IsCut side
  pub least : (other : Side) → IsCut other → weight network side ≤ weight network other
  pub inside : (other : Side) → IsCut other → weight network other ≤ weight network side → (vertex : Vertex) → IsTrue (side vertex) → IsTrue (other vertex)
