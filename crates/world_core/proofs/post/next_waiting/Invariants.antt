use Rattle.std.proofs.Common.{◌-◌, ◌≤◌, length}
use Rattle.world_core.specs.Parts.{AreGone}
use Rattle.world_core.proofs.post.next_waiting.Given as goal

abbrev pub invariant-loop-first : goal.invariant-loop-first
invariant-loop-first g l = record {
  within : l.from ≤ length l.slots.items → l.first ≤ length l.slots.items;
  before : AreGone l.slots.items l.from → AreGone l.slots.items l.first;
  later : l.from ≤ l.first;
}

abbrev pub decreases-loop-first : goal.decreases-loop-first
decreases-loop-first g l = length l.slots.items - l.first
