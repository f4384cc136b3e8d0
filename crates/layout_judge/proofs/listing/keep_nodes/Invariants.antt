use Rattle.std.proofs.Common.{◌≡◌, ◌++◌, take}
use Rattle.std.specs.List.{filter}
use Rattle.side_model.specs.Sides.{set_of}
use Rattle.layout_judge.specs.Places.{node_vertices}
use Rattle.layout_judge.proofs.listing.keep_nodes.Given as goal

abbrev pub invariant-loop-role : goal.invariant-loop-role
invariant-loop-role l = l.kept ≡ l.initial.kept ++ filter (set_of l.side.vertices.now) (node_vertices (take l.role-index l.roles))
