use Rattle.std.proofs.Common.{drop}
use Rattle.node_parts.proofs.Accepting.{PassesTo}
use Rattle.node_parts.proofs.contents.Contents.accept_all.Given as goal

abbrev pub invariant-loop-stored : goal.invariant-loop-stored
invariant-loop-stored g l = PassesTo g.S.Row.Crdt.join g.S.Schema.words l.now l.fn.self l.self l.rows (drop l.stored-index l.rows)
