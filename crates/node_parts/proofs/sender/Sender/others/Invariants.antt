use Rattle.std.proofs.Common.{◌≡◌, map, take}
use Rattle.node_parts.specs.Sends.{with_others}
use Rattle.node_parts.proofs.sender.Sender.others.Given as goal

abbrev pub invariant-loop-p : goal.invariant-loop-p
invariant-loop-p l = map (λ place. (place.0, place.1.items)) l.places.items ≡ with_others l.self.node (take l.p-index l.parts)
