use Rattle.s3_world.proofs.Causes.{same_causes}
use Rattle.s3_world.proofs.Storing.{has_run, has_bytes, opened_plays, opened_overflows}
use Rattle.s3_world.proofs.world.S3World.opened.Goals as goal

pub opened-requires-clause-stands : goal.opened-requires-clause-stands
opened-requires-clause-stands c = has_run c.args.self.now c.requires.stands

pub opened-requires-clause-sized : goal.opened-requires-clause-sized
opened-requires-clause-sized c = has_bytes c.args.self.now c.requires.stands

pub returns-clause-keeps : goal.returns-clause-keeps
returns-clause-keeps c = opened_plays c.args.self.now c.opened.new.self c.args.node c.args.order c.opened.result c.opened.ensures.plays

pub returns-clause-causes : goal.returns-clause-causes
returns-clause-causes c = same_causes c.opened.result (opened_overflows c.args.self.now c.args.node c.args.order) c.opened.ensures.causes
