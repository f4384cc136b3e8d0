use Rattle.std.proofs.Common.{◌≡◌, drop}
use Rattle.world_core.proofs.post.drop_front.Given as goal

abbrev pub invariant-loop : goal.invariant-loop
invariant-loop g l = l.slots.items ≡ drop l.counter l.fn.slots.items
