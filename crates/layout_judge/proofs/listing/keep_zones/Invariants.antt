use Rattle.std.proofs.Common.{◌≡◌, ◌++◌, take, map}
use Rattle.std.specs.List.{filter, enumerate_from}
use Rattle.layout_roles.specs.declared.vertex.Vertex.TheVariants.{Zone}
use Rattle.side_model.specs.Sides.{set_of}
use Rattle.layout_judge.proofs.listing.keep_zones.Given as goal

abbrev pub invariant-loop-i : goal.invariant-loop-i
invariant-loop-i l = l.kept ≡ l.initial.kept ++ filter (set_of l.side.vertices.now) (map (λ zone. Zone l.p zone.0) (take l.i (enumerate_from 0 l.zones)))
