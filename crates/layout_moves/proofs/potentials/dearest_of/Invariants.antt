use Rattle.std.proofs.Common.{◌≡◌, ◌<◌, ◌^◌, take}
use Rattle.layout_moves.specs.Prices.{dearest, asked}
use Rattle.layout_moves.proofs.potentials.dearest_of.Given as goal

abbrev pub invariant-loop-node : goal.invariant-loop-node
invariant-loop-node l = record { dearest : l.most ≡ dearest (asked 1 l.old l.prices) (take l.node-index l.set); small : l.most < 2 ^ 33 }
