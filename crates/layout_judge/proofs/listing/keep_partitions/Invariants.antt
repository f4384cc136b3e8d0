use Rattle.std.proofs.Common.{◌≡◌, ◌++◌}
use Rattle.std.specs.List.{filter, flat_map, range_with_len}
use Rattle.side_model.specs.Sides.{set_of}
use Rattle.layout_judge.specs.Places.{front_vertices}
use Rattle.layout_judge.proofs.listing.keep_partitions.Given as goal

abbrev pub invariant-loop-p : goal.invariant-loop-p
invariant-loop-p l = l.kept ≡ l.initial.kept ++ filter (set_of l.side.vertices.now) (flat_map (front_vertices l.zones) (range_with_len 0 l.p))
