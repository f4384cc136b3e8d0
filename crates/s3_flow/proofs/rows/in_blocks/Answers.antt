use Rattle.s3_flow.proofs.ObjectRows.{the_in_blocks}
use Rattle.s3_flow.proofs.rows.in_blocks.Goals as goal

pub returns-clause-is : goal.returns-clause-is
returns-clause-is c = the_in_blocks c.in_ok-row.row c.args.name c.args.version c.args.meta c.args.first c.in_ok-row.ensures.is
