use Rattle.std.proofs.Common.{◌≡◌, ◌≤◌, length, take}
use Rattle.layout_roles.specs.Fits.{zones_of}
use Rattle.layout_judge.proofs.sets.zone_count.Given as goal

abbrev pub invariant-loop-i : goal.invariant-loop-i
invariant-loop-i l = record { within : l.count ≤ l.i; count : l.count ≡ length (zones_of (take l.i l.roles) l.set) }
