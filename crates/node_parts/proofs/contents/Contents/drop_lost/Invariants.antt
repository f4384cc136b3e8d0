use Rattle.std.proofs.Common.{◌≡◌}
use Rattle.layout_history.specs.Views.{known}
use Rattle.cluster_machine.specs.Layouts.{is_given, layouts}
use Rattle.node_parts.proofs.Dropping.{left_at, Ends}
use Rattle.node_parts.proofs.contents.Contents.drop_lost.Given as goal

abbrev pub invariant-loop-p : goal.invariant-loop-p
invariant-loop-p g l = record {
  table : l.self.table ≡ left_at (is_given layouts (known l.view) l.node) g.S.Schema.words l.p l.fn.self.table;
  outbox : l.self.outbox ≡ l.fn.self.outbox;
  ends : Ends g.S.Row.Crdt.join g.S.Schema.words l.now l.fn.self.blocks l.self.blocks l.fn.self.table l.self.table;
}
