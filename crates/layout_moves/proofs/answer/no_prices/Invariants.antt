use Rattle.std.proofs.Common.{◌≡◌, replicate}
use Rattle.layout_moves.proofs.answer.no_prices.Given as goal

abbrev pub invariant-loop : goal.invariant-loop
invariant-loop l = l.prices ≡ replicate l.counter 0
