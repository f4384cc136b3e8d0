use Rattle.std.proofs.Common.{refl}
use Rattle.view_model.specs.Layouts.{reading}
use Rattle.layout_history.specs.Views.{known}
use Rattle.view_model.specs.View.{merged}
use Rattle.cluster_machine.specs.Rows.{sees}
use Rattle.cluster_machine.specs.Layouts.{layouts}
use Rattle.node_core.proofs.Nodes.{silent}
use Rattle.node_core.proofs.node.Node.hear.Goals as goal

pub returns-in_ok-take_view-in-View-clause-receives : goal.returns-in_ok-take_view-in-View-clause-receives
returns-in_ok-take_view-in-View-clause-receives g c id x is =
    rw (c.in-View.is, c.drops_none.ensures) (silent c.take_view.new.self id (sees g.S.Row.Crdt.join g.S.Schema.words layouts id c.args.now x (merged reading x.view (known c.in-View.view))) c.args.out.now.items (rw c.get-in-View.ensures at (c.in_ok-take_view-in-View.ensures.sees id x is)))

-- a view makes a node drop no row
pub returns-in_ok-take_view-in-View-clause-dropped : goal.returns-in_ok-take_view-in-View-clause-dropped
returns-in_ok-take_view-in-View-clause-dropped g c id x is = rw (c.in-View.is, c.drops_none.ensures) refl

pub returns-in-Msg-clause-receives : goal.returns-in-Msg-clause-receives
returns-in-Msg-clause-receives g c = rw c.in-Msg.is (rw c.get.ensures at c.on_message.ensures.hears)

pub returns-in-Msg-clause-dropped : goal.returns-in-Msg-clause-dropped
returns-in-Msg-clause-dropped g c = rw c.in-Msg.is (rw c.get.ensures at c.on_message.ensures.dropped)
