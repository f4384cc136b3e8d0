use Rattle.serve_loop.proofs.Admits.{not_asked}
use Rattle.serve_loop.proofs.admitting.admit.Goals as goal

pub returns-in-Err : goal.returns-in-Err
returns-in-Err c = not_asked c.args.access.now c.args.now c.args.head.now c.in-Err.fault c.in-Err.ensures
