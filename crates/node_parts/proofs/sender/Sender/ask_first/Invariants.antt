use Rattle.std.proofs.Common.{◌≡◌, take}
use Rattle.node_parts.proofs.WalkSends.{AsksFirst}
use Rattle.node_parts.proofs.sender.Sender.ask_first.Given as goal

abbrev pub invariant-loop-table : goal.invariant-loop-table
invariant-loop-table g l = record {
  asks : AsksFirst g.S.Row.Crdt.join g.S.Schema.words l.self l.fn.contents l.fn.out.items l.out.items l.walk.node l.p (take l.table-index l.table-items);
  same : l.contents ≡ l.fn.contents;
}
