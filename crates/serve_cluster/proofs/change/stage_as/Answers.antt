use Rattle.serve_cluster.proofs.Acting.{cause_more}
use Rattle.serve_cluster.proofs.Events.{staged_so, staging_lacks}
use Rattle.serve_cluster.proofs.change.stage_as.Goals as goal

pub returns-in-Ok-clause-does : goal.returns-in-Ok-clause-does
returns-in-Ok-clause-does c = staged_so c.args.world.now c.step.new.self c.in-Ok.field-0 c.args.node c.args.role c.in-Ok.ensures.plays

pub returns-clause-causes : goal.returns-clause-causes
returns-clause-causes c = cause_more c.in-Err.memory (staging_lacks c.args.world.now c.args.node c.args.role) c.in-Err.ensures.causes
