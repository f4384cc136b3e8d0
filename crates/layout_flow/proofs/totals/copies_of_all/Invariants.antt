use Rattle.std.proofs.Common.{◌≡◌, min, take}
use Rattle.layout_flow.specs.Totals.{copies_in, total}
use Rattle.layout_flow.proofs.totals.copies_of_all.Given as goal

abbrev pub invariant-loop-zone : goal.invariant-loop-zone
invariant-loop-zone l = l.copies ≡ min 768 (total 256 (copies_in 256 l.size) l.each (take l.zone-index l.zones))
