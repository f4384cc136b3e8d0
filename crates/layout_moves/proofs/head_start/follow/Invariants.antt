use Rattle.layout_moves.specs.Auction.{AreBases}
use Rattle.layout_moves.proofs.head_start.follow.Given as goal

abbrev pub invariant-loop : goal.invariant-loop
invariant-loop l = AreBases l.roles.list l.each l.sets
