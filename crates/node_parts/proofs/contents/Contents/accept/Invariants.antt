use Rattle.std.proofs.Common.{◌≡◌, take}
use Rattle.table_model.specs.Rows.{merged_in}
use Rattle.node_parts.proofs.Accepting.{Queues}
use Rattle.node_parts.proofs.contents.Contents.accept.Given as goal

abbrev pub invariant-loop-called : goal.invariant-loop-called
invariant-loop-called g l = record {
  table : l.self.table ≡ merged_in g.S.Row.Crdt.join g.S.Schema.words l.fn.row l.fn.self.table;
  queue : Queues g.S.Row.Crdt.join g.S.Schema.words l.fn.self.outbox l.self.outbox (take l.called-index l.called-items);
  kept : l.self.blocks ≡ l.initial.self.blocks;
}
