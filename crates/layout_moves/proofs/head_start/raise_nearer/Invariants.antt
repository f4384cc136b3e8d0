use Rattle.std.proofs.Common.{◌≡◌, length}
use Rattle.layout_moves.proofs.head_start.raise_nearer.Given as goal

abbrev pub invariant-loop-node : goal.invariant-loop-node
invariant-loop-node l = length l.prices ≡ 65
