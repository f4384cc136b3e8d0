use Rattle.std.proofs.Common.{◌≡◌, ◌≤◌, take}
use Rattle.layout_moves.specs.Prices.{kept}
use Rattle.layout_moves.proofs.sets.kept_in.Given as goal

abbrev pub invariant-loop-role : goal.invariant-loop-role
invariant-loop-role l = record { within : l.count ≤ l.role-index; count : l.count ≡ kept l.set (take l.role-index l.zone) }
