use Rattle.std.proofs.Common.{ℕ, ◌++◌, [], ◌∷◌, List, length, ◌≤◌, map, take, sym, ap, ◌∙◌, arith}
use Rattle.std.specs.List.{filter, enumerate_from}
use Rattle.std.proofs.lemmas.List.{take_all}
use Rattle.std.proofs.lemmas.List.FromFn.{length-enumerate_from}
use Rattle.layout_roles.specs.declared.role.Role.{Role}
use Rattle.layout_roles.specs.declared.vertex.Vertex.{Vertex}
use Rattle.layout_roles.specs.declared.vertex.Vertex.TheVariants.{Zone}
use Rattle.side_model.specs.Sides.{set_of}
use Rattle.layout_judge.proofs.Kept.{kept_both, zones_more}
use Rattle.layout_judge.proofs.listing.keep_zones.Goals as goal

pub loop-i-preserved : goal.loop-i-preserved
loop-i-preserved c =
    let side = set_of c.args.side.now.vertices.now in
    let zones = c.args.zones.now in
    let so_far = map (λ (z : ℕ × List Role). Zone c.args.p z.0) (take c.loop-i.i (enumerate_from 0 zones)) in
    kept_both side c.args.kept.now c.loop-i.kept c.keep.new.kept so_far (Zone c.args.p c.loop-i.i ∷ []) c.loop-i.invariant c.in_ok-keep.ensures.ok
    ∙ ap (λ (xs : List Vertex). c.args.kept.now ++ filter side xs) (sym (zones_more c.args.p zones c.loop-i.i c.loop-i-test.true))

pub returns-clause-ok : goal.returns-clause-ok
returns-clause-ok c =
    let side = set_of c.args.side.now.vertices.now in
    let xs = enumerate_from 0 c.args.zones.now in
    let end : length xs ≤ c.loop-i.i = omega (arith, length-enumerate_from 0 c.args.zones.now) in
    c.loop-i.invariant ∙ ap (λ (ys : List (ℕ × List Role)). c.args.kept.now ++ filter side (map (λ z. Zone c.args.p z.0) ys)) (take_all c.loop-i.i xs end)
