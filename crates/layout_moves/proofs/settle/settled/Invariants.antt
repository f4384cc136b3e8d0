use Rattle.std.proofs.Common.{IsTrue}
use Rattle.std.specs.List.{sum_by}
use Rattle.layout_roles.specs.Zones.{set_ascends}
use Rattle.layout_moves.specs.Prices.{IsBase, asked}
use Rattle.layout_moves.proofs.settle.settled.Given as goal

abbrev pub invariant-loop-set : goal.invariant-loop-set
invariant-loop-set l = record { base : IsBase l.roles.list l.each l.set; ascends : IsTrue (set_ascends l.set) }

abbrev pub decreases-loop-set : goal.decreases-loop-set
decreases-loop-set l = sum_by (asked l.fee l.old l.prices) l.set
