use Rattle.std.proofs.Common.{ℕ, Bool, List, ◌||◌, ◌&&◌, ◌==◌, not, [], ◌+◌, take, sym, ◌∙◌, subst, arith}
use Rattle.std.proofs.lemmas.List.{take_all}
use Rattle.layout_roles.specs.declared.role.Role.{Role}
use Rattle.layout_roles.specs.Fits.{has_node}
use Rattle.layout_moves.specs.Prices.{asked, lies, is_open}
use Rattle.layout_moves.specs.Offers.{IsCheapest}
use Rattle.layout_moves.proofs.Offering.{recast, no_roles, role_more, zone_opened, zone_shut}
use Rattle.layout_moves.proofs.offers.with_zone.Goals as goal

pub loop-role-init : goal.loop-role-init
loop-role-init c = λ test is.
    let set = c.args.set.now in
    recast test (λ n. test n || (lies [] n && not (has_node n set))) (asked c.args.fee c.args.old.now c.args.prices.now) c.args.start (no_roles test set) is

pub loop-role-preserved : goal.loop-role-preserved
loop-role-preserved c = λ test is.
    let set = c.args.set.now in
    let zone = c.args.zone.now in
    let i = c.loop-role.role-index in
    let role = c.role-item.result in
    let before : ℕ → Bool = λ n. test n || (lies (take i zone) n && not (has_node n set)) in
    recast (λ n. before n || ((role.node == n) && not (has_node n set))) (λ n. test n || (lies (take (i + 1) zone) n && not (has_node n set))) (asked c.args.fee c.args.old.now c.args.prices.now) c.with_role-best.result
    (role_more test set zone i role c.loop-role-test.true c.role-item.is) (c.with_role-best.ensures before (c.loop-role.invariant test is))

pub returns : goal.returns
returns c = λ test is.
    let set = c.args.set.now in
    let zone = c.args.zone.now in
    let i = c.loop-role.role-index in
    let asks = asked c.args.fee c.args.old.now c.args.prices.now in
    let all = subst (λ (z : List Role). IsCheapest (λ n. test n || (lies z n && not (has_node n set))) asks c.loop-role.best) (take_all i zone (omega arith)) (c.loop-role.invariant test is) in
    recast (λ n. test n || (lies zone n && not (has_node n set))) (λ n. test n || ((is_open c.args.each set c.args.out zone && lies zone n) && not (has_node n set))) asks c.loop-role.best
    (zone_opened test set zone (is_open c.args.each set c.args.out zone) (sym c.opens.ensures ∙ c.if-not-opens.false)) all

pub returns-then-not-opens : goal.returns-then-not-opens
returns-then-not-opens c = λ test is.
    let set = c.args.set.now in
    let zone = c.args.zone.now in
    recast test (λ n. test n || ((is_open c.args.each set c.args.out zone && lies zone n) && not (has_node n set))) (asked c.args.fee c.args.old.now c.args.prices.now) c.args.start
    (zone_shut test set zone (is_open c.args.each set c.args.out zone) (sym c.opens.ensures ∙ c.if-not-opens.true)) is
