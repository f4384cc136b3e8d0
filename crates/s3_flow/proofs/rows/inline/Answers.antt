use Rattle.s3_flow.proofs.ObjectRows.{the_inline}
use Rattle.s3_flow.proofs.rows.inline.Goals as goal

pub returns-clause-is : goal.returns-clause-is
returns-clause-is c = the_inline c.in_ok-row.row c.args.name c.args.version c.args.meta c.args.body c.in_ok-row.ensures.is
