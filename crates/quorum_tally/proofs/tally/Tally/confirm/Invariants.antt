use Rattle.std.proofs.Common.{◌≡◌, ◌++◌, map, take, drop, length}
use Rattle.quorum_tally.specs.Marks.{marks_after}
use Rattle.quorum_tally.proofs.tally.Tally.confirm.Given as goal

abbrev pub invariant-loop-i : goal.invariant-loop-i
invariant-loop-i l =
    record {
      first : l.self.first ≡ l.initial.self.first;
      len : length l.self.slots.items ≡ length l.initial.self.slots.items;
      slots : l.self.slots.items ≡ map (marks_after l.node) (take l.i l.initial.self.slots.items) ++ drop l.i l.initial.self.slots.items;
    }
