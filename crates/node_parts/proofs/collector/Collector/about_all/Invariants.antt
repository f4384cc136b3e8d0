use Rattle.node_parts.proofs.GoingOn.{Going}
use Rattle.node_parts.proofs.collector.Collector.about_all.Given as goal

abbrev pub invariant-loop-key : goal.invariant-loop-key
invariant-loop-key g l = Going g.S.Row.Crdt.join g.S.Schema.words l.self l.contents.table l.initial.key-iterator l.fn.gc l.fn.out.items l.key-iterator l.gc l.out.items
