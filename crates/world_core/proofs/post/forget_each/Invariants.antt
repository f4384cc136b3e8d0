use Rattle.std.proofs.Common.{◌≡◌, length}
use Rattle.world_core.proofs.PostsForgotten.{Forgets}
use Rattle.world_core.proofs.post.forget_each.Given as goal

abbrev pub invariant-loop-place : goal.invariant-loop-place
invariant-loop-place g l = record {
  forgets : Forgets l.fn.slots.items l.slots.items l.place;
  long : length l.slots.items ≡ length l.fn.slots.items;
}
