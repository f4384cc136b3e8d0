-- What an assignment moves, and what potentials show of every assignment that fits.
use Rattle.std.specs.Prelude.{ℕ, ℤ, pos, negsuc, ◌-ℤ◌, ◌*ℤ◌, ◌*◌, not, cond, List, [], ◌∷◌}
use Rattle.std.specs.List.{sum_by, count_by, range_with_len}
use Rattle.layout_roles.specs.declared.role.Role.{Role}
use Rattle.layout_roles.specs.Fits.{NodeSet, set_at, has_node, partitions}
use Rattle.layout_roles.specs.Network.{Edge, network}
use Rattle.layout_flow.specs.Flows.{same_vertex}
use Rattle.layout_roles.specs.declared.vertex.Vertex.{Vertex}
use Rattle.layout_roles.specs.declared.vertex.Vertex.TheVariants.{Source, Zone, Node, Sink}

-- how many nodes of a set the old one hasn't
abbrev pub new_nodes : NodeSet → NodeSet → ℕ
new_nodes old set = count_by (λ node. not (has_node node old)) set

-- how many pairs of partition and node, of so many partitions, the old assignment hasn't
unfoldable pub moves_of : ℕ → List NodeSet → List NodeSet → ℕ
moves_of count old sets = sum_by (λ p. new_nodes (set_at old p) (set_at sets p)) (range_with_len 0 count)

-- how many pairs of partition and node the old assignment hasn't
abbrev pub moves : List NodeSet → List NodeSet → ℕ
moves = moves_of partitions

-- a copy costs 1 at a node that the old set of its partition hasn't
abbrev pub cost_between : List NodeSet → Vertex → Vertex → ℕ
cost_between old (Zone p i) (Node node) = cond (has_node node (set_at old p)) 0 1
cost_between old _ _ = 0

-- what a copy costs along an edge
abbrev pub cost : List NodeSet → Edge → ℕ
cost old edge = cost_between old edge.from edge.to

-- a number for each vertex
abbrev pub Potentials : Type 0
Potentials = Vertex → ℤ

-- the number, or 0 where it is below
abbrev pub positive : ℤ → ℕ
positive (pos n) = n
positive (negsuc n) = 0

-- by how much the potential rises along an edge above its cost
abbrev pub gain : List NodeSet → Potentials → Edge → ℕ
gain old potential edge = positive ((potential edge.to -ℤ potential edge.from) -ℤ pos (cost old edge))

-- the potential of the sink for each copy, less what the edges could gain
abbrev pub bound : List Role → ℕ → ℕ → List NodeSet → Potentials → ℤ
bound roles r size old potential =
    (pos 768 *ℤ potential Sink) -ℤ pos (sum_by (λ edge. edge.capacity * gain old potential edge) (network roles r size))

-- what a list of potentials says of a vertex, 0 where it says nothing
abbrev pub listed : List (Vertex × ℤ) → Vertex → ℤ
listed [] vertex = pos 0
listed (first ∷ rest) vertex = cond (same_vertex first.0 vertex) first.1 (listed rest vertex)

-- the potentials of a list; the source's is 0
abbrev pub potentials : List (Vertex × ℤ) → Potentials
potentials list Source = pos 0
potentials list vertex = listed list vertex
