use Rattle.std.proofs.Common.{◌≡◌, ℕ, Bool, List, ◌||◌, ◌&&◌, ◌+◌, not, take, ap, sym, ◌∙◌}
use Rattle.layout_roles.specs.declared.role.Role.{Role}
use Rattle.layout_roles.specs.Fits.{has_node}
use Rattle.layout_moves.specs.Prices.{asked, lies, is_open, may_take}
use Rattle.layout_moves.proofs.Offering.{recast, none_yet, zone_more}
use Rattle.layout_moves.proofs.offers.best_offer.Goals as goal

pub loop-zone-init : goal.loop-zone-init
loop-zone-init c = none_yet c.args.each c.args.set.now c.args.out (asked c.args.fee c.args.old.now c.args.prices.now)

pub loop-zone-preserved : goal.loop-zone-preserved
loop-zone-preserved c =
    let set = c.args.set.now in
    let groups = c.args.groups.now in
    let i = c.loop-zone.zone-index in
    let zone = c.as_slice.result.now in
    let before : ℕ → Bool = may_take c.args.each set c.args.out (take i groups) in
    let item = c.zone-item.result in
    let same : zone ≡ item = c.as_slice.ensures in
    recast (λ n. before n || ((is_open c.args.each set c.args.out zone && lies zone n) && not (has_node n set))) (may_take c.args.each set c.args.out (take (i + 1) groups)) (asked c.args.fee c.args.old.now c.args.prices.now) c.with_zone-best.result
    (λ n. zone_more c.args.each set c.args.out groups i item c.loop-zone-test.true c.zone-item.is n ∙ ap (λ (z : List Role). before n || ((is_open c.args.each set c.args.out z && lies z n) && not (has_node n set))) (sym same))
    (c.with_zone-best.ensures before c.loop-zone.invariant)
