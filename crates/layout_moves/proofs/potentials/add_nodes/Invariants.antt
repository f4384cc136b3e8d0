use Rattle.std.proofs.Common.{◌≡◌, ◌++◌, map, take}
use Rattle.layout_roles.specs.Zones.{storage_nodes}
use Rattle.layout_roles.specs.declared.vertex.Vertex.TheVariants.{Node}
use Rattle.layout_moves.specs.Prices.{potential}
use Rattle.layout_moves.specs.Listing.{with_potential}
use Rattle.layout_moves.proofs.potentials.add_nodes.Given as goal

abbrev pub invariant-loop-role : goal.invariant-loop-role
invariant-loop-role l = l.list ≡ l.initial.list ++ map (λ role. with_potential (potential l.roles.list l.each l.old l.sets l.prices l.top) (Node role.node)) (storage_nodes (take l.role-index l.roles.list))
