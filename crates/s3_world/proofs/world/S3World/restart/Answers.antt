use Rattle.cluster_machine.specs.declared.step.Step.TheVariants.{Restart}
use Rattle.s3_world.proofs.Causes.{same_causes}
use Rattle.s3_world.proofs.Storing.{has_run, step_plays, step_overflows}
use Rattle.s3_world.proofs.world.S3World.restart.Goals as goal

pub restart-requires : goal.restart-requires
restart-requires c = record { stands = has_run c.args.self.now c.requires.stands }

pub returns-clause-keeps : goal.returns-clause-keeps
returns-clause-keeps c = step_plays c.args.self.now c.restart.new.self (Restart c.args.node) c.restart.result c.restart.ensures.plays

pub returns-clause-causes : goal.returns-clause-causes
returns-clause-causes c = same_causes c.restart.result (step_overflows c.args.self.now (Restart c.args.node)) c.restart.ensures.causes
