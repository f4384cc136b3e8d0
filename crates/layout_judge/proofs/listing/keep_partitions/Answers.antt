use Rattle.std.proofs.Common.{◌++◌, List, sym, ap, ◌∙◌}
use Rattle.std.specs.List.{filter, flat_map, range_with_len}
use Rattle.layout_roles.specs.declared.vertex.Vertex.{Vertex}
use Rattle.side_model.specs.Sides.{set_of}
use Rattle.layout_judge.specs.Places.{front_vertices}
use Rattle.layout_judge.proofs.Kept.{kept_both, parts_more}
use Rattle.layout_judge.proofs.listing.keep_partitions.Goals as goal

pub loop-p-preserved : goal.loop-p-preserved
loop-p-preserved c =
    let side = set_of c.args.side.now.vertices.now in
    let part = front_vertices c.args.zones.now in
    kept_both side c.args.kept.now c.loop-p.kept c.keep_partition.new.kept (flat_map part (range_with_len 0 c.loop-p.p)) (part c.loop-p.p) c.loop-p.invariant c.in_ok-keep_partition.ensures.ok
    ∙ ap (λ (xs : List Vertex). c.args.kept.now ++ filter side xs) (sym (parts_more part c.loop-p.p))
