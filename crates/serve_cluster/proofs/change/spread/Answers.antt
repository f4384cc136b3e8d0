use Rattle.serve_cluster.proofs.Acting.{cause_more}
use Rattle.serve_cluster.proofs.Events.{spread_so, spreading_lacks}
use Rattle.serve_cluster.proofs.change.spread.Goals as goal

pub returns-in-Ok-clause-does : goal.returns-in-Ok-clause-does
returns-in-Ok-clause-does c = spread_so c.args.world.now c.step.new.self c.in-Ok.field-0 c.args.wanted c.in-Ok.ensures.plays

pub returns-clause-causes : goal.returns-clause-causes
returns-clause-causes c = cause_more c.in-Err.memory (spreading_lacks c.args.world.now c.args.wanted) c.in-Err.ensures.causes
