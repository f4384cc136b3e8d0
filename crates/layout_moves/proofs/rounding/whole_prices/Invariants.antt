use Rattle.std.proofs.Common.{◌≡◌, ◌+◌, ◌/◌, map, take}
use Rattle.layout_moves.proofs.rounding.whole_prices.Given as goal

abbrev pub invariant-loop-price : goal.invariant-loop-price
invariant-loop-price l = l.rounded ≡ map (λ price. (price + l.shift) / 66) (take l.price-index l.prices)
