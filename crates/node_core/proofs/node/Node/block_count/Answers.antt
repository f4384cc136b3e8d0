use Rattle.std.proofs.Common.{◌∙◌}
use Rattle.node_core.proofs.Nodes.{as_many_blocks}
use Rattle.node_core.proofs.node.Node.block_count.Goals as goal

pub returns : goal.returns
returns g c id x is = c.len.ensures.len ∙ as_many_blocks x is.contents
