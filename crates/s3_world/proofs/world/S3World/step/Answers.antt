use Rattle.s3_world.proofs.Played.{plays_kept, calm_kept}
use Rattle.s3_world.proofs.world.S3World.step.Goals as goal

pub returns-clause-plays : goal.returns-clause-plays
returns-clause-plays c = plays_kept c.args.self.now c.happens.new.self c.args.event.now c.happens.result c.happens.ensures.keeps

pub returns-clause-keeps : goal.returns-clause-keeps
returns-clause-keeps c = calm_kept c.args.self.now c.happens.new.self c.args.event.now c.happens.result c.happens.ensures.keeps
