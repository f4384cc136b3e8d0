use Rattle.std.proofs.Common.{◌≡◌, ◌+◌, ◌-◌, true, sym, refl, ◌∙◌, arith}
use Rattle.layout_roles.specs.Fits.{has_node, set_at}
use Rattle.layout_moves.specs.Prices.{asked, may_take}
use Rattle.layout_moves.specs.declared.bids.Bid.{Bid}
use Rattle.layout_moves.proofs.Offering.{made_at, least_at, cheap_has, bid_made}
use Rattle.layout_moves.proofs.bids.with_partition.Goals as goal

pub overflow_sub-rise : goal.overflow_sub-rise
overflow_sub-rise c =
    let set = set_at c.args.sets.now c.args.p in
    let asks = asked c.args.fee (set_at c.args.old.now c.args.p) c.args.prices.now in
    let has : has_node c.args.out set ≡ true = sym c.has.ensures ∙ c.if-not-has.false in
    let made = made_at (may_take c.args.each set c.args.out c.args.groups.now) asks c.best_offer.result c.in-Some.offer c.in-Some.is c.best_offer.ensures in
    let le = cheap_has c.args.each c.args.groups.now asks set c.args.out c.requires.cheap has c.in-Some.offer.node made.0 in
    let e = c.asked_by.ensures.asked in
    let price = made.1 in
    omega arith

pub returns : goal.returns
returns c = λ is.
    let set = set_at c.args.sets.now c.args.p in
    let asks = asked c.args.fee (set_at c.args.old.now c.args.p) c.args.prices.now in
    let has : has_node c.args.out set ≡ true = sym c.has.ensures ∙ c.if-not-has.false in
    let test = may_take c.args.each set c.args.out c.args.groups.now in
    let made = made_at test asks c.best_offer.result c.in-Some.offer c.in-Some.is c.best_offer.ensures in
    let le = cheap_has c.args.each c.args.groups.now asks set c.args.out c.requires.cheap has c.in-Some.offer.node made.0 in
    let e = c.asked_by.ensures.asked in
    let price = made.1 in
    let bid : Bid = record { partition = c.args.p; node = c.in-Some.offer.node; rise = c.in-Some.offer.price + 1 - c.asked_by.result } in
    let gap : asks c.args.out + (c.in-Some.offer.price + 1 - c.asked_by.result) ≡ asks c.in-Some.offer.node + 1 = omega arith in
    bid_made c.args.fee c.args.groups.now c.args.each c.args.old.now c.args.sets.now c.args.prices.now c.args.out c.args.p c.args.best c.lesser.result bid is c.lesser.ensures.kept c.lesser.ensures.new c.lesser.ensures.one refl
    (has, made.0, gap)
    (λ node t. let l = least_at test asks c.best_offer.result c.in-Some.offer c.in-Some.is c.best_offer.ensures node t in omega arith)
