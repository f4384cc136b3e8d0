use Rattle.std.proofs.Common.{◌≡◌, List, drop}
use Rattle.quorum_model.specs.Quorum.{StoreSlot, is_kept}
use Rattle.write_call.specs.Stands.{AreTallies}
use Rattle.write_call.proofs.call.all_reached.Given as goal

abbrev pub invariant-loop-slot : goal.invariant-loop-slot
invariant-loop-slot l = (stored : List StoreSlot) → AreTallies l.slots stored → is_kept (drop l.slot-index stored) l.from ≡ is_kept stored l.from
