use Rattle.serve_cluster.proofs.Acting.{drained, none_left}
use Rattle.serve_cluster.proofs.acts.deliver.Goals as goal

pub returns-in-Ok-clause-keeps : goal.returns-in-Ok-clause-keeps
returns-in-Ok-clause-keeps c = drained c.args.world.now c.deliver_next.new.self 1 c.in-Ok.ensures.drained

pub returns-in-Ok-clause-last : goal.returns-in-Ok-clause-last
returns-in-Ok-clause-last c = none_left c.args.world.now c.in-Ok.more c.in-Ok.ensures.some
