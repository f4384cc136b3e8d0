use Rattle.std.proofs.Common.{take}
use Rattle.layout_moves.specs.Prices.{asked}
use Rattle.layout_moves.proofs.settle.gain.Given as goal
use Rattle.layout_moves.proofs.Offering.{CheapSoFar}

abbrev pub invariant-loop-out : goal.invariant-loop-out
invariant-loop-out l = CheapSoFar l.each l.groups (asked l.fee l.old l.prices) l.set (take l.out-index l.set)
