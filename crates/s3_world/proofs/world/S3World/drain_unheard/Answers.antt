use Rattle.store_model.specs.Run.{drains}
use Rattle.s3_world.proofs.Causes.{handed_on}
use Rattle.s3_world.proofs.Keeping.{drains_keeps}
use Rattle.s3_world.proofs.Storing.{has_run, carries, overflows}
use Rattle.s3_world.proofs.world.S3World.drain_unheard.Goals as goal

pub drains-requires : goal.drains-requires
drains-requires c = record { stands = has_run c.args.self.now c.requires.stands }

pub returns-in_err-drains-clause-causes : goal.returns-in_err-drains-clause-causes
returns-in_err-drains-clause-causes c = handed_on c.from_residual.result c.in_err-drains.field-0.0 c.from_residual.ensures.1 (overflows c.args.self.now (λ s. drains c.args.count s)) c.in_err-drains.ensures.causes

pub returns-clause-keeps : goal.returns-clause-keeps
returns-clause-keeps c = carries c.args.self.now c.drains.new.self (λ s. drains c.args.count s) (λ s. drains_keeps c.args.count s) c.in_ok-drains.field-0 c.in_ok-drains.ensures.plays
