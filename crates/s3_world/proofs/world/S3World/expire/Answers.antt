use Rattle.cluster_machine.specs.declared.step.Step.TheVariants.{Expire}
use Rattle.s3_world.proofs.Causes.{same_causes}
use Rattle.s3_world.proofs.Storing.{has_run, step_plays, step_overflows}
use Rattle.s3_world.proofs.world.S3World.expire.Goals as goal

pub expire-requires : goal.expire-requires
expire-requires c = record { stands = has_run c.args.self.now c.requires.stands }

pub returns-clause-keeps : goal.returns-clause-keeps
returns-clause-keeps c = step_plays c.args.self.now c.expire.new.self (Expire c.args.request) c.expire.result c.expire.ensures.plays

pub returns-clause-causes : goal.returns-clause-causes
returns-clause-causes c = same_causes c.expire.result (step_overflows c.args.self.now (Expire c.args.request)) c.expire.ensures.causes
