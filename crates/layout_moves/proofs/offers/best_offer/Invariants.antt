use Rattle.std.proofs.Common.{take}
use Rattle.layout_moves.specs.Prices.{may_take, asked}
use Rattle.layout_moves.specs.Offers.{IsCheapest}
use Rattle.layout_moves.proofs.offers.best_offer.Given as goal

abbrev pub invariant-loop-zone : goal.invariant-loop-zone
invariant-loop-zone l = IsCheapest (may_take l.each l.set l.out (take l.zone-index l.groups)) (asked l.fee l.old l.prices) l.best
