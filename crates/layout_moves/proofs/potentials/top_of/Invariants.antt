use Rattle.std.proofs.Common.{ℕ, ◌<◌, ◌≤◌, ◌^◌}
use Rattle.layout_roles.specs.Fits.{set_at}
use Rattle.layout_moves.specs.Prices.{dearest, asked}
use Rattle.layout_moves.proofs.potentials.top_of.Given as goal

abbrev pub invariant-loop-p : goal.invariant-loop-p
invariant-loop-p l = record { topped : (p : ℕ) → p < l.p → dearest (asked 1 (set_at l.old p) l.prices) (set_at l.sets p) ≤ l.top; small : l.top < 2 ^ 33 }
