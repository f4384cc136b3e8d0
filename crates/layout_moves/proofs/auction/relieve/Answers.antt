use Rattle.std.proofs.Common.{◌≡◌, ◌-◌, ◌<◌, IsTrue, false, nat_eq, [], length, sym, refl, subst, arith}
use Rattle.std.proofs.lemmas.Option.{get_or_from_slice_get}
use Rattle.std.specs.List.{IsDistinct}
use Rattle.layout_roles.specs.Fits.{NodeSet, has_node, set_at}
use Rattle.layout_roles.specs.Zones.{zones}
use Rattle.layout_moves.specs.Prices.{IsSwap}
use Rattle.layout_moves.proofs.Swaps.{lacks}
use Rattle.layout_moves.proofs.Steps.{over_at}
use Rattle.layout_moves.proofs.Running.{over_small, one_fits, rise_fits, step_none, step_some, stepped_to, bid_at, bid_moved}
use Rattle.layout_moves.proofs.auction.relieve.Goals as goal

pub raise-requires-clause-inside : goal.raise-requires-clause-inside
raise-requires-clause-inside c =
    let roles = c.args.roles.now in
    let small = over_small roles.list c.args.size c.args.sets.now c.args.node roles.numbered (over_at roles.list c.args.size c.args.sets.now c.args.node c.requires.over) in
    let rows = c.requires.priced.rows in
    omega arith

pub raise-requires-clause-fits : goal.raise-requires-clause-fits
raise-requires-clause-fits c =
    let roles = c.args.roles.now in
    one_fits roles.list c.args.size c.args.sets.now c.args.prices.now c.args.node c.requires.priced.low (over_at roles.list c.args.size c.args.sets.now c.args.node c.requires.over)

pub returns-in_default-clause-priced : goal.returns-in_default-clause-priced
returns-in_default-clause-priced c =
    let roles = c.args.roles.now in
    let priced = c.requires.priced in
    let is = bid_moved roles.list c.args.r c.args.old.now c.args.sets.now c.as_slice.result.now c.args.prices.now c.as_slice-2.result.now c.args.groups.now c.args.node c.best_bid.result c.as_slice.ensures c.as_slice-2.ensures c.requires.grouped priced.whole c.best_bid.ensures in
    let step = step_none roles.list c.args.r c.args.size c.args.old.now c.args.sets.now c.requires.some.0 c.args.prices.now c.args.node c.best_bid.result c.requires.high roles.ascending roles.numbered c.requires.some.1 priced c.requires.over is c.in_default.is in
    (stepped_to roles.list c.args.r c.args.size c.args.old.now c.args.sets.now c.args.prices.now c.args.sets.now c.args.sets.now _ c.raise.new.prices refl c.raise.ensures step).priced

pub returns-in_default-clause-nearer : goal.returns-in_default-clause-nearer
returns-in_default-clause-nearer c =
    let roles = c.args.roles.now in
    let priced = c.requires.priced in
    let is = bid_moved roles.list c.args.r c.args.old.now c.args.sets.now c.as_slice.result.now c.args.prices.now c.as_slice-2.result.now c.args.groups.now c.args.node c.best_bid.result c.as_slice.ensures c.as_slice-2.ensures c.requires.grouped priced.whole c.best_bid.ensures in
    let step = step_none roles.list c.args.r c.args.size c.args.old.now c.args.sets.now c.requires.some.0 c.args.prices.now c.args.node c.best_bid.result c.requires.high roles.ascending roles.numbered c.requires.some.1 priced c.requires.over is c.in_default.is in
    (stepped_to roles.list c.args.r c.args.size c.args.old.now c.args.sets.now c.args.prices.now c.args.sets.now c.args.sets.now _ c.raise.new.prices refl c.raise.ensures step).nearer

pub raise-requires-2-clause-inside : goal.raise-requires-2-clause-inside
raise-requires-2-clause-inside c =
    let roles = c.args.roles.now in
    let small = over_small roles.list c.args.size c.args.sets.now c.args.node roles.numbered (over_at roles.list c.args.size c.args.sets.now c.args.node c.requires.over) in
    let rows = c.requires.priced.rows in
    omega arith

pub raise-requires-2-clause-fits : goal.raise-requires-2-clause-fits
raise-requires-2-clause-fits c =
    let roles = c.args.roles.now in
    let priced = c.requires.priced in
    let is = bid_moved roles.list c.args.r c.args.old.now c.args.sets.now c.as_slice.result.now c.args.prices.now c.as_slice-2.result.now c.args.groups.now c.args.node c.best_bid.result c.as_slice.ensures c.as_slice-2.ensures c.requires.grouped priced.whole c.best_bid.ensures in
    let made = bid_at 66 (zones roles.list) (4 - c.args.r) c.args.old.now c.args.sets.now c.args.prices.now c.args.node 256 c.best_bid.result c.in-Some.bid is c.in-Some.is in
    rise_fits roles.list c.args.r c.args.old.now c.args.sets.now c.args.prices.now c.args.node c.in-Some.bid.partition c.in-Some.bid.node c.in-Some.bid.rise priced.low made.1

pub swapped-set-requires : goal.swapped-set-requires
swapped-set-requires c =
    let roles = c.args.roles.now in
    let priced = c.requires.priced in
    let is = bid_moved roles.list c.args.r c.args.old.now c.args.sets.now c.as_slice.result.now c.args.prices.now c.as_slice-2.result.now c.args.groups.now c.args.node c.best_bid.result c.as_slice.ensures c.as_slice-2.ensures c.requires.grouped priced.whole c.best_bid.ensures in
    let made = bid_at 66 (zones roles.list) (4 - c.args.r) c.args.old.now c.args.sets.now c.args.prices.now c.args.node 256 c.best_bid.result c.in-Some.bid is c.in-Some.is in
    let at : set_at c.args.sets.now c.in-Some.bid.partition ≡ c.at.result.now = get_or_from_slice_get c.args.sets.now c.in-Some.bid.partition c.at.result.now [] c.at.ensures in
    subst (λ (x : NodeSet). IsTrue (has_node c.args.node x)) at made.1.0

pub returns-clause-priced : goal.returns-clause-priced
returns-clause-priced c =
    let roles = c.args.roles.now in
    let priced = c.requires.priced in
    let bid = c.in-Some.bid in
    let is = bid_moved roles.list c.args.r c.args.old.now c.args.sets.now c.as_slice.result.now c.args.prices.now c.as_slice-2.result.now c.args.groups.now c.args.node c.best_bid.result c.as_slice.ensures c.as_slice-2.ensures c.requires.grouped priced.whole c.best_bid.ensures in
    let made = bid_at 66 (zones roles.list) (4 - c.args.r) c.args.old.now c.args.sets.now c.args.prices.now c.args.node 256 c.best_bid.result bid is c.in-Some.is in
    let at : set_at c.args.sets.now bid.partition ≡ c.at.result.now = get_or_from_slice_get c.args.sets.now bid.partition c.at.result.now [] c.at.ensures in
    let swap : IsSwap (set_at c.args.sets.now bid.partition) c.args.node bid.node c.swapped-set.result = subst (λ (x : NodeSet). IsSwap x c.args.node bid.node c.swapped-set.result) (sym at) c.swapped-set.ensures.swap in
    let lacked = lacks (4 - c.args.r) (set_at c.args.sets.now bid.partition) c.args.node (zones roles.list) bid.node made.1.1 in
    let inside : bid.partition < length c.args.sets.now = let m = made.0 in let w = priced.whole in omega arith in
    let base = priced.bases bid.partition [] inside in
    let rising = c.swapped-set.ensures.ascends (subst (λ (x : NodeSet). IsDistinct nat_eq x) at base.three.different) (subst (λ (x : NodeSet). has_node bid.node x ≡ false) at lacked) in
    let step = step_some roles.list c.args.r c.args.size c.args.old.now c.args.sets.now c.requires.some.0 c.args.prices.now c.args.node c.best_bid.result bid c.swapped-set.result c.requires.high roles.ascending roles.numbered c.requires.some.1 priced c.requires.over is c.in-Some.is swap rising in
    (stepped_to roles.list c.args.r c.args.size c.args.old.now c.args.sets.now c.args.prices.now _ c.set.new.self _ c.raise-2.new.prices c.set.ensures c.raise-2.ensures step).priced

pub returns-clause-nearer : goal.returns-clause-nearer
returns-clause-nearer c =
    let roles = c.args.roles.now in
    let priced = c.requires.priced in
    let bid = c.in-Some.bid in
    let is = bid_moved roles.list c.args.r c.args.old.now c.args.sets.now c.as_slice.result.now c.args.prices.now c.as_slice-2.result.now c.args.groups.now c.args.node c.best_bid.result c.as_slice.ensures c.as_slice-2.ensures c.requires.grouped priced.whole c.best_bid.ensures in
    let made = bid_at 66 (zones roles.list) (4 - c.args.r) c.args.old.now c.args.sets.now c.args.prices.now c.args.node 256 c.best_bid.result bid is c.in-Some.is in
    let at : set_at c.args.sets.now bid.partition ≡ c.at.result.now = get_or_from_slice_get c.args.sets.now bid.partition c.at.result.now [] c.at.ensures in
    let swap : IsSwap (set_at c.args.sets.now bid.partition) c.args.node bid.node c.swapped-set.result = subst (λ (x : NodeSet). IsSwap x c.args.node bid.node c.swapped-set.result) (sym at) c.swapped-set.ensures.swap in
    let lacked = lacks (4 - c.args.r) (set_at c.args.sets.now bid.partition) c.args.node (zones roles.list) bid.node made.1.1 in
    let inside : bid.partition < length c.args.sets.now = let m = made.0 in let w = priced.whole in omega arith in
    let base = priced.bases bid.partition [] inside in
    let rising = c.swapped-set.ensures.ascends (subst (λ (x : NodeSet). IsDistinct nat_eq x) at base.three.different) (subst (λ (x : NodeSet). has_node bid.node x ≡ false) at lacked) in
    let step = step_some roles.list c.args.r c.args.size c.args.old.now c.args.sets.now c.requires.some.0 c.args.prices.now c.args.node c.best_bid.result bid c.swapped-set.result c.requires.high roles.ascending roles.numbered c.requires.some.1 priced c.requires.over is c.in-Some.is swap rising in
    (stepped_to roles.list c.args.r c.args.size c.args.old.now c.args.sets.now c.args.prices.now _ c.set.new.self _ c.raise-2.new.prices c.set.ensures c.raise-2.ensures step).nearer
