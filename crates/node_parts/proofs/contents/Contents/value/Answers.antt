use Rattle.node_parts.proofs.Faults.{passed_on}
use Rattle.node_parts.proofs.Spelled.{all_spelled, some_lacks}
use Rattle.node_parts.proofs.contents.Contents.value.Goals as goal

pub returns-in_err-value-clause-causes : goal.returns-in_err-value-clause-causes
returns-in_err-value-clause-causes g c = passed_on c.from_residual.result c.in_err-value.field-0.0 c.from_residual.ensures.1 c.in_err-value.ensures.causes (some_lacks c.args.self.now c.args.p)

pub returns-clause-spelled : goal.returns-clause-spelled
returns-clause-spelled g c = all_spelled c.args.self.now c.args.p c.in_ok-value.ensures.written
