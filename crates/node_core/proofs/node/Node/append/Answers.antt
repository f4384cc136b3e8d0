use Rattle.std.specs.Prelude.{refl}
use Rattle.node_parts.proofs.Faults.{ok_to}
use Rattle.node_core.proofs.Appended.{appended_stands}
use Rattle.node_core.proofs.node.Node.append.Goals as goal

pub returns-clause-appends : goal.returns-clause-appends
returns-clause-appends g c = ok_to c.append.result c.append.ensures.appended (λ new id x. appended_stands g.S.Row.Crdt.join g.S.Schema.words c.args.self.now _ c.args.layout id x refl c.requires.next new)
