use Rattle.std.proofs.Common.{ℕ, ◌≡◌, ◌+◌, ◌<◌, ◌%◌, nat_lt, false}
use Rattle.std.specs.List.{list_all}
use Rattle.layout_moves.proofs.rounding.shift_of.Given as goal

abbrev pub invariant-loop-shift : goal.invariant-loop-shift
invariant-loop-shift l = (t : ℕ) → t < l.shift → list_all (λ price. nat_lt 0 ((price + t) % 66)) l.prices ≡ false
