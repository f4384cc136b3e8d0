use Rattle.node_core.proofs.Nodes.{with_dropped}
use Rattle.node_core.proofs.node.Node.dropped.Goals as goal

pub returns-clause-unchanged : goal.returns-clause-unchanged
returns-clause-unchanged g c id x is = with_dropped c.args.self.now id x c.take.new.self is
