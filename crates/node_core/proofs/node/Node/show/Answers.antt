use Rattle.std.specs.Prelude.{refl}
use Rattle.node_core.proofs.Appended.{appended_stands}
use Rattle.node_core.proofs.node.Node.show.Goals as goal

pub returns : goal.returns
returns g c l next is_view id x = appended_stands g.S.Row.Crdt.join g.S.Schema.words c.args.self.now _ l id x refl next is_view
