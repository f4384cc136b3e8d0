use Rattle.std.proofs.Common.{arith}
use Rattle.layout_moves.proofs.Rounded.{some_clear}
use Rattle.layout_moves.proofs.rounding.shift_of.Goals as goal

pub unreachable-requires : goal.unreachable-requires
unreachable-requires c = some_clear c.args.prices.now c.requires (λ t less. c.loop-shift.invariant t (omega arith))
