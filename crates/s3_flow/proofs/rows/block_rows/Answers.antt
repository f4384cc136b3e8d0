use Rattle.s3_flow.proofs.ObjectRows.{the_block_rows}
use Rattle.s3_flow.proofs.rows.block_rows.Goals as goal

pub returns-clause-are : goal.returns-clause-are
returns-clause-are c i at =
    the_block_rows c.args.id c.args.block c.args.body.now i c.args.offset c.in_ok-piece.piece c.hash-hash.result.now c.len-size.result c.in_ok-version.version c.in_ok-rows.rows
    c.in_ok-rows.ensures.are c.in_ok-version.ensures.is c.hash-hash.ensures c.len-size.ensures c.in_ok-piece.ensures.piece at
