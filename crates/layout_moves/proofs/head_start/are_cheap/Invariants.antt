use Rattle.std.proofs.Common.{ℕ, ◌<◌}
use Rattle.layout_roles.specs.Fits.{set_at}
use Rattle.layout_moves.specs.Prices.{asked, IsCheap}
use Rattle.layout_moves.proofs.head_start.are_cheap.Given as goal

abbrev pub invariant-loop-p : goal.invariant-loop-p
invariant-loop-p l = (p : ℕ) → p < l.p → IsCheap 1 l.each l.groups (asked 66 (set_at l.old p) l.prices) (set_at l.sets p)
