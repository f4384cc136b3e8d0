use Rattle.s3_flow.proofs.ObjectRows.{the_rows_at}
use Rattle.s3_flow.proofs.rows.rows_at.Goals as goal

pub returns-clause-are : goal.returns-clause-are
returns-clause-are c =
    the_rows_at c.args.id c.args.offset c.args.piece c.hash-hash.result.now c.len-size.result c.in_ok-version.version c.in_ok-rows.rows
    c.in_ok-rows.ensures.are c.in_ok-version.ensures.is c.hash-hash.ensures c.len-size.ensures
