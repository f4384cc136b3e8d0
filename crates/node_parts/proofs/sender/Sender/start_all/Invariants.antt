use Rattle.std.proofs.Common.{◌≡◌, map, take}
use Rattle.node_parts.specs.Sends.{StartsAll}
use Rattle.node_parts.proofs.sender.Sender.start_all.Given as goal

abbrev pub invariant-loop-p : goal.invariant-loop-p
invariant-loop-p g l = record {
  starts : StartsAll g.S.Row.Crdt.join g.S.Schema.words l.self l.fn.contents (map (λ place. (place.0, place.1.items)) (take l.p-index l.places)) l.fn.out.items l.out.items l.begun.items;
  same : l.contents ≡ l.fn.contents;
}
