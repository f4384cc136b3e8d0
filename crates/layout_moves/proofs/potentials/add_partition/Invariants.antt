use Rattle.std.proofs.Common.{◌≡◌, ◌++◌, ◌∷◌, map, take}
use Rattle.std.specs.List.{enumerate_from}
use Rattle.layout_roles.specs.Zones.{zones}
use Rattle.layout_roles.specs.declared.vertex.Vertex.TheVariants.{Up, Down, Zone}
use Rattle.layout_moves.specs.Prices.{potential}
use Rattle.layout_moves.specs.Listing.{with_potential}
use Rattle.layout_moves.proofs.potentials.add_partition.Given as goal

abbrev pub invariant-loop-i : goal.invariant-loop-i
invariant-loop-i l =
    l.list ≡ l.fn.list ++ (with_potential (potential l.roles.list l.each l.fn.old l.sets l.prices l.top) (Up l.p) ∷ with_potential (potential l.roles.list l.each l.fn.old l.sets l.prices l.top) (Down l.p)
    ∷ map (λ zone. with_potential (potential l.roles.list l.each l.fn.old l.sets l.prices l.top) (Zone l.p zone.0)) (take l.i (enumerate_from 0 (zones l.roles.list))))
