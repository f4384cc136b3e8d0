use Rattle.store_model.specs.Acts.{all_messages}
use Rattle.serve_cluster.proofs.Acting.{drained, drain_lacks, cause_more}
use Rattle.serve_cluster.proofs.acts.drain_all.Goals as goal

pub returns-in-Ok-clause-keeps : goal.returns-in-Ok-clause-keeps
returns-in-Ok-clause-keeps c = drained c.args.world.now c.drain_all.new.self all_messages c.in-Ok.ensures.keeps

pub returns-in-Err-clause-causes : goal.returns-in-Err-clause-causes
returns-in-Err-clause-causes c = cause_more c.in-Err.memory (drain_lacks c.args.world.now all_messages) c.in-Err.ensures.causes
