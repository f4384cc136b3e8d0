use Rattle.std.proofs.Common.{◌≡◌, take}
use Rattle.node_parts.specs.Sends.{Starts}
use Rattle.node_parts.proofs.sender.Sender.start.Given as goal

abbrev pub invariant-loop-node : goal.invariant-loop-node
invariant-loop-node g l = record {
  starts : Starts g.S.Row.Crdt.join g.S.Schema.words l.self l.fn.contents l.p (take l.node-index l.nodes) l.fn.out.items l.out.items l.fn.begun.items l.begun.items;
  same : l.contents ≡ l.fn.contents;
}
