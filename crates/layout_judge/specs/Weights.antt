-- The weight of a cut, as it is added up.
use Rattle.std.specs.Prelude.{ℕ, ◌-◌, ◌^◌, min, List, ◌∷◌}
use Rattle.std.specs.List.{flat_map, enumerate_from}
use Rattle.layout_roles.specs.declared.role.Role.{Role}
use Rattle.layout_roles.specs.declared.vertex.Vertex.TheVariants.{Source, Up, Down}
use Rattle.layout_roles.specs.Network.{Edge, edge, zone_edges}

-- a sum that stops at 2^64 - 1
abbrev pub at_most : ℕ → ℕ
at_most n = min n (2 ^ 64 - 1)

-- the edges of partition p up to the nodes, for these storage nodes zone by zone
abbrev pub front_edges : ℕ → ℕ → List (List Role) → List Edge
front_edges r p zones = edge Source (Up p) r ∷ edge Source (Down p) (3 - r) ∷ flat_map (zone_edges r p) (enumerate_from 0 zones)
