use Rattle.std.proofs.Common.{◌≡◌, ◌++◌, map, take, drop, length}
use Rattle.block_resync.specs.Outbox.{item_forgot}
use Rattle.block_resync.proofs.resync.forget_all.Given as goal

abbrev pub invariant-loop-i : goal.invariant-loop-i
invariant-loop-i l =
    record {
      len : length l.items ≡ length l.initial.items;
      items : l.items ≡ map item_forgot (take l.i l.initial.items) ++ drop l.i l.initial.items;
    }
