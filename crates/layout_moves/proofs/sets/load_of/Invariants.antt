use Rattle.std.proofs.Common.{◌≡◌, ◌≤◌, take}
use Rattle.layout_roles.specs.Fits.{load}
use Rattle.layout_moves.proofs.sets.load_of.Given as goal

abbrev pub invariant-loop-set : goal.invariant-loop-set
invariant-loop-set l = record { within : l.count ≤ l.set-index; count : l.count ≡ load (take l.set-index l.sets) l.node }
