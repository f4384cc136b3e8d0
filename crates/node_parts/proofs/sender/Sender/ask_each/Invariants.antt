use Rattle.std.proofs.Common.{◌≡◌, take}
use Rattle.node_parts.specs.Sends.{Asks}
use Rattle.node_parts.proofs.sender.Sender.ask_each.Given as goal

abbrev pub invariant-loop-prefix : goal.invariant-loop-prefix
invariant-loop-prefix g l = record {
  asks : Asks g.S.Row.Crdt.join g.S.Schema.words l.self l.fn.contents l.fn.out.items l.out.items l.to l.p l.table (take l.prefix-index l.prefixes);
  same : l.contents ≡ l.fn.contents;
}
