use Rattle.store_model.specs.Run.{drains}
use Rattle.s3_world.proofs.Causes.{same_causes}
use Rattle.s3_world.proofs.Keeping.{drains_keeps}
use Rattle.s3_world.proofs.Storing.{has_run, plays, overflows}
use Rattle.s3_world.proofs.world.S3World.drains.Goals as goal

pub drains-requires : goal.drains-requires
drains-requires c = record { stands = has_run c.args.self.now c.requires.stands }

pub returns-clause-keeps : goal.returns-clause-keeps
returns-clause-keeps c = plays c.args.self.now c.drains.new.self (λ s. drains c.args.count s) (λ s. drains_keeps c.args.count s) c.drains.result c.drains.ensures.plays

pub returns-clause-causes : goal.returns-clause-causes
returns-clause-causes c = same_causes c.drains.result (overflows c.args.self.now (λ s. drains c.args.count s)) c.drains.ensures.causes
