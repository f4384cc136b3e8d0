use Rattle.std.proofs.Common.{◌≡◌, min, take}
use Rattle.layout_flow.specs.Totals.{copies_in}
use Rattle.layout_flow.proofs.totals.copies_of_zone.Given as goal

abbrev pub invariant-loop-role : goal.invariant-loop-role
invariant-loop-role l = l.copies ≡ min 768 (copies_in 256 l.size (take l.role-index l.zone))
