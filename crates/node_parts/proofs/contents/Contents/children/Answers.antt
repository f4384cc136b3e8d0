use Rattle.std.proofs.Common.{◌∙◌}
use Rattle.node_parts.proofs.Faults.{passed_on}
use Rattle.node_parts.proofs.Spelled.{some_lacks, children_so}
use Rattle.node_parts.proofs.contents.Contents.children.Goals as goal

pub returns-in_err-children-clause-causes : goal.returns-in_err-children-clause-causes
returns-in_err-children-clause-causes g c = passed_on c.from_residual.result c.in_err-children.field-0.0 c.from_residual.ensures.1 c.in_err-children.ensures.causes (some_lacks c.args.self.now c.args.p)

pub returns-clause-are : goal.returns-clause-are
returns-clause-are g c x is = c.from_vec.ensures ∙ children_so c.args.self.now c.args.table c.args.p c.args.prefix.now c.in_ok-children.children.items x c.in_ok-children.ensures.are is
