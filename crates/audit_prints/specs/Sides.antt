-- How the vertices of a cut are read from lines, and when a cut is light.
use Rattle.std.specs.Prelude.{◌≡◌, ◌<◌, ℕ, map, Bool, Option, Some, None, List, [], ◌∷◌, ◌++◌}
use Rattle.std.specs.List.{flat_map, filter}
use Rattle.layout_roles.specs.declared.role.Role.{Role}
use Rattle.layout_roles.specs.declared.vertex.Vertex.{Vertex}
use Rattle.layout_roles.specs.declared.vertex.Vertex.TheVariants.{Source, Up, Down, Zone}
use Rattle.layout_roles.specs.declared.cut.Cut.{Cut}
use Rattle.layout_roles.specs.Zones.{Name, zone_names}
use Rattle.layout_roles.specs.Network.{network, vertices}
use Rattle.layout_roles.specs.Cuts.{IsCut, weight}
use Rattle.side_model.specs.Sides.{set_of}
use Rattle.audit_model.specs.declared.said.Said.{Said}
use Rattle.audit_model.specs.Printed.{where_is, zone_at, side_in}

-- the number in a list of its own, where there is one
abbrev pub one_or_none : Option ℕ → List ℕ
one_or_none None = []
one_or_none (Some i) = i ∷ []

-- the numbers of the zones with these names, of those that there are
abbrev pub zone_numbers : List Name → List Name → List ℕ
zone_numbers names zones = flat_map (λ name. one_or_none (zone_at names name)) zones

-- the vertices of a partition: its halves, where they are named, and its zones of these numbers
abbrev pub partition_part : Bool → Bool → List ℕ → ℕ → List Vertex
partition_part up down zones p = where_is up (Up p) ++ where_is down (Down p) ++ map (Zone p) zones

-- the source, and the vertices on its side that these lines name
abbrev pub side_read : List Role → List Said → List Vertex
side_read roles saids = Source ∷ side_in (zone_names roles) saids

-- the vertices are a cut of the network for the size, of less than three copies of each partition
pub record IsLight (roles : List Role) (r size : ℕ) (side : List Vertex) : Type 0 where
  pub cut : IsCut (set_of side)
  pub light : weight (network roles r size) (set_of side) < 768

-- the cut of these vertices for the size, with its weight and its vertices in order
pub record IsCutOf (roles : List Role) (r size : ℕ) (side : List Vertex) (cut : Cut) : Type 0 where
  pub size_is : cut.size ≡ size
  pub weight_is : cut.weight ≡ weight (network roles r size) (set_of side)
  pub side_is : cut.side ≡ filter (set_of side) (vertices roles)
