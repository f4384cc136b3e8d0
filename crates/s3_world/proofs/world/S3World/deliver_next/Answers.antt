use Rattle.s3_world.proofs.Becoming.{some_kept}
use Rattle.s3_world.proofs.world.S3World.deliver_next.Goals as goal

pub returns-clause-drained : goal.returns-clause-drained
returns-clause-drained c = some_kept c.args.self.now _ 1 c.in_ok-drain_unheard.ensures.keeps
