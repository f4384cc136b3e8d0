use Rattle.std.proofs.Common.{arith}
use Rattle.bench.proofs.Periods.{pattern_is}
use Rattle.bench.proofs.hashing.pattern_piece.Goals as goal

pub returns : goal.returns
returns c = pattern_is c.loop-i.piece 32128 c.loop-i.invariant.0 (λ k below. c.loop-i.invariant.1 k (omega arith))
