use Rattle.layout_moves.specs.Offers.{IsLeastBid}
use Rattle.layout_moves.proofs.bids.best_bid.Given as goal

abbrev pub invariant-loop-p : goal.invariant-loop-p
invariant-loop-p l = IsLeastBid l.fee l.groups l.each l.old l.sets l.prices l.out l.p l.best
