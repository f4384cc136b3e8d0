use Rattle.std.proofs.Common.{◌≡◌, ◌+◌, ◌-◌, ◌++◌}
use Rattle.store_model.specs.Events.{object_bytes}
use Rattle.k2v_world.proofs.events.value_bytes.Given as goal

abbrev pub invariant-loop-i : goal.invariant-loop-i
invariant-loop-i l = l.bytes ++ object_bytes (l.fn.size - l.i) (l.fn.fill + l.i) ≡ object_bytes l.fn.size l.fn.fill
