use Rattle.std.proofs.Common.{◌≡◌, ◌<◌, ◌^◌, take}
use Rattle.std.specs.List.{filter}
use Rattle.layout_moves.specs.Prices.{lies, dearest, asked}
use Rattle.layout_moves.proofs.potentials.dearest_in.Given as goal

abbrev pub invariant-loop-node : goal.invariant-loop-node
invariant-loop-node l = record { dearest : l.most ≡ dearest (asked 1 l.old l.prices) (filter (lies l.zone) (take l.node-index l.set)); small : l.most < 2 ^ 33 }
