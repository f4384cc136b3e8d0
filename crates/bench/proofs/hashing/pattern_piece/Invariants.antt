use Rattle.std.proofs.Common.{◌≡◌, ℕ, ◌<◌, ◌%◌, length, get_or}
use Rattle.bench.proofs.hashing.pattern_piece.Given as goal

abbrev pub invariant-loop-i : goal.invariant-loop-i
invariant-loop-i l = (length l.piece ≡ 32128) × ((k : ℕ) → k < l.i → get_or l.piece k 0 ≡ k % 251)
