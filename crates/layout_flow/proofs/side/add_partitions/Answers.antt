use Rattle.std.proofs.Common.{◌≡◌, ◌++◌, List, sym, ap, ◌∙◌, arith, append_assoc}
use Rattle.std.specs.List.{flat_map, range_with_len}
use Rattle.layout_flow.specs.Closed.{held_in, held_in_all}
use Rattle.layout_roles.specs.declared.vertex.Vertex.{Vertex}
use Rattle.layout_flow.proofs.Listed.{held_in_more}
use Rattle.layout_flow.proofs.side.add_partitions.Goals as goal

pub loop-p-preserved : goal.loop-p-preserved
loop-p-preserved c =
    c.in_ok-add_partition.ensures.ok ∙ ap (λ (s : List Vertex). s ++ held_in c.args.down c.args.zones.now c.loop-p.p) c.loop-p.invariant
    ∙ append_assoc c.args.side.now (flat_map (held_in c.args.down c.args.zones.now) (range_with_len 0 c.loop-p.p)) (held_in c.args.down c.args.zones.now c.loop-p.p)
    ∙ ap (λ (s : List Vertex). c.args.side.now ++ s) (sym (held_in_more c.args.down c.args.zones.now c.loop-p.p))

pub returns-clause-ok : goal.returns-clause-ok
unfolding held_in_all
returns-clause-ok c =
    let end : c.loop-p.p ≡ c.args.count = omega arith in
    c.loop-p.invariant ∙ ap (λ p. c.args.side.now ++ flat_map (held_in c.args.down c.args.zones.now) (range_with_len 0 p)) end
