use Rattle.cluster_machine.specs.Collects.{has_digest}
use Rattle.table_model.specs.Rows.{row_at}
use Rattle.node_core.proofs.Collections.{forgot}
use Rattle.node_core.proofs.Nodes.{ok_all}
use Rattle.node_core.proofs.node.Node.take_forget.Goals as goal

pub returns-clause-forgets : goal.returns-clause-forgets
returns-clause-forgets g c = ok_all c.forget.result (rw c.as_slice.ensures at c.forget.ensures.forgets) (λ dropped forgets out.
    let join = g.S.Row.Crdt.join in
    let s = g.S.Schema.words in
    let key = c.args.key.now in (
      (λ id x is. forgot join s c.args.self.now id x is c.forget.new.self out c.args.table key (has_digest join s c.args.hash.now.0) (row_at join s x.accepted c.args.table key) (forgets x is.contents).0),
      (λ id x is. (forgets x is.contents).1),
    ))
