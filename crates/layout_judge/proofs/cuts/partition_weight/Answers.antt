use Rattle.std.proofs.Common.{◌≡◌, ℕ, ◌+◌, ◌<◌, List, length, take, sym, ap, ◌∙◌, arith}
use Rattle.std.specs.List.{sum_by, enumerate_from}
use Rattle.std.proofs.lemmas.List.{take_all}
use Rattle.std.proofs.lemmas.List.FromFn.{length-enumerate_from}
use Rattle.layout_roles.specs.declared.role.Role.{Role}
use Rattle.layout_roles.specs.Network.{zone_edges}
use Rattle.layout_roles.specs.Cuts.{weight}
use Rattle.side_model.specs.Sides.{set_of}
use Rattle.layout_judge.specs.Weights.{at_most}
use Rattle.layout_judge.proofs.Weighed.{front, zone_weighs, front_is, zone_more}
use Rattle.layout_judge.proofs.cuts.partition_weight.Goals as goal

pub returns : goal.returns
returns c =
    let side = set_of c.args.side.now.vertices.now in
    let zones = c.args.zones.now in
    let all : take c.loop-i.i (enumerate_from 0 zones) ≡ enumerate_from 0 zones = take_all c.loop-i.i (enumerate_from 0 zones) (omega (arith, length-enumerate_from 0 zones)) in
    c.loop-i.invariant
    ∙ ap at_most (ap (λ (xs : List (ℕ × List Role)). front side c.args.r c.args.p + sum_by (zone_weighs side c.args.r c.args.p) xs) all ∙ sym (front_is side c.args.r c.args.p zones))

-- a zone more
pub loop-i-preserved : goal.loop-i-preserved
loop-i-preserved c =
    let side = set_of c.args.side.now.vertices.now in
    let i = c.loop-i.i in
    let zone = c.index-zones-i.result in
    let inside : i < length c.args.zones.now = c.loop-i-test.true in
    let weighs : c.zone_weight.result ≡ at_most (weight (zone_edges c.args.r c.args.p (i, zone)) side) =
    c.zone_weight.ensures ∙ ap (λ (z : List Role). at_most (weight (zone_edges c.args.r c.args.p (i, z)) side)) c.as_slice.ensures in
    c.saturating_add-total-in-loop-i.ensures ∙ zone_more side c.args.r c.args.p c.args.zones.now i zone inside c.index-zones-i.is c.loop-i.total c.zone_weight.result c.loop-i.invariant weighs
