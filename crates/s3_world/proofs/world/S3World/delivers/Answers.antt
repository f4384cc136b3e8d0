use Rattle.store_model.specs.Run.{delivers}
use Rattle.s3_world.proofs.Causes.{same_causes}
use Rattle.s3_world.proofs.Keeping.{delivers_keeps}
use Rattle.s3_world.proofs.Storing.{has_run, plays, overflows}
use Rattle.s3_world.proofs.world.S3World.delivers.Goals as goal

pub delivers-requires : goal.delivers-requires
delivers-requires c = record { stands = has_run c.args.self.now c.requires.stands }

pub returns-clause-keeps : goal.returns-clause-keeps
returns-clause-keeps c = plays c.args.self.now c.delivers.new.self (λ s. delivers s c.args.message) (λ s. delivers_keeps s c.args.message) c.delivers.result c.delivers.ensures.plays

pub returns-clause-causes : goal.returns-clause-causes
returns-clause-causes c = same_causes c.delivers.result (overflows c.args.self.now (λ s. delivers s c.args.message)) c.delivers.ensures.causes
