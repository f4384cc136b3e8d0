use Rattle.serve_cluster.proofs.Acting.{worked, work_lacks, cause_more}
use Rattle.serve_cluster.proofs.acts.work.Goals as goal

pub returns-in-Ok-clause-keeps : goal.returns-in-Ok-clause-keeps
returns-in-Ok-clause-keeps c = worked c.args.world.now c.step.new.self c.in-Ok.field-0 c.args.member (c.in-Ok.ensures.keeps tt)

pub returns-clause-causes : goal.returns-clause-causes
returns-clause-causes c = cause_more c.in-Err.memory (work_lacks c.args.world.now c.args.member) c.in-Err.ensures.causes
