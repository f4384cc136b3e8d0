use Rattle.std.proofs.Common.{◌||◌, ◌&&◌, ◌==◌, not, nat_eq, sym, ◌∙◌}
use Rattle.layout_roles.specs.Fits.{has_node}
use Rattle.layout_moves.specs.Prices.{asked}
use Rattle.layout_moves.proofs.Offering.{recast, role_had, role_lacked}
use Rattle.layout_moves.proofs.offers.with_role.Goals as goal

pub returns-then-has : goal.returns-then-has
returns-then-has c = λ test is.
    let set = c.args.set.now in
    let node = c.args.role.now.node in
    recast test (λ n. test n || ((node == n) && not (has_node n set))) (asked c.args.fee c.args.old.now c.args.prices.now) c.args.best (role_had test set node (sym c.has.ensures ∙ c.if-has.true)) is

pub returns : goal.returns
returns c = λ test is.
    let set = c.args.set.now in
    let node = c.args.role.now.node in
    let asks = asked c.args.fee c.args.old.now c.args.prices.now in
    recast (λ n. test n || nat_eq n node) (λ n. test n || ((node == n) && not (has_node n set))) asks c.cheaper.result (role_lacked test set node (sym c.has.ensures ∙ c.if-has.false)) (c.cheaper.ensures test asks is c.asked_by-price.ensures.asked)
