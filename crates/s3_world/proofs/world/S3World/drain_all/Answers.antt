use Rattle.s3_world.proofs.Becoming.{all_kept, all_carried, all_overflow}
use Rattle.s3_world.proofs.Causes.{same_causes}
use Rattle.s3_world.proofs.world.S3World.drain_all.Goals as goal

pub returns-clause-drained : goal.returns-clause-drained
returns-clause-drained c = all_carried c.args.self.now c.drain_unheard.new.self c.drain_unheard.result c.drain_unheard.ensures.keeps

pub returns-clause-keeps : goal.returns-clause-keeps
returns-clause-keeps c = all_kept c.args.self.now c.drain_unheard.new.self c.drain_unheard.result c.drain_unheard.ensures.keeps

pub returns-clause-causes : goal.returns-clause-causes
returns-clause-causes c = same_causes c.drain_unheard.result (all_overflow c.args.self.now) c.drain_unheard.ensures.causes
