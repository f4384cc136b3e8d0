use Rattle.s3_world.proofs.Storing.{cut_keeps}
use Rattle.s3_world.proofs.world.S3World.cut.Goals as goal

pub returns : goal.returns
returns c = cut_keeps c.args.self.now c.accepted.result (rw c.new.ensures at c.accepted.ensures) c.args.size c.requires
