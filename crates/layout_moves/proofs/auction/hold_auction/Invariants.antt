use Rattle.layout_moves.specs.Auction.{IsPriced, unrest}
use Rattle.layout_moves.proofs.auction.hold_auction.Given as goal

abbrev pub invariant-loop-node : goal.invariant-loop-node
invariant-loop-node l = IsPriced l.roles.list l.r l.size l.old l.sets l.prices

abbrev pub decreases-loop-node : goal.decreases-loop-node
decreases-loop-node l = unrest l.roles.list l.old l.sets l.prices
