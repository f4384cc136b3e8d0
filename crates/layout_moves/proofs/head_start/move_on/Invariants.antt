use Rattle.std.proofs.Common.{◌≡◌, length}
use Rattle.layout_moves.specs.Auction.{AreBases}
use Rattle.layout_moves.proofs.head_start.move_on.Given as goal

abbrev pub invariant-loop : goal.invariant-loop
invariant-loop l = record { bases : AreBases l.roles.list l.each l.sets; rows : length l.prices ≡ 65 }
