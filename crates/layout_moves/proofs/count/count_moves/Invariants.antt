use Rattle.std.proofs.Common.{◌≡◌, ◌*◌, ◌≤◌}
use Rattle.std.specs.List.{sum_by, range_with_len}
use Rattle.layout_roles.specs.Fits.{set_at}
use Rattle.layout_moves.specs.Moves.{new_nodes}
use Rattle.layout_moves.proofs.count.count_moves.Given as goal

abbrev pub invariant-loop-p : goal.invariant-loop-p
invariant-loop-p l = record { within : l.count ≤ 3 * l.p; count : l.count ≡ sum_by (λ p. new_nodes (set_at l.old p) (set_at l.sets p)) (range_with_len 0 l.p) }
