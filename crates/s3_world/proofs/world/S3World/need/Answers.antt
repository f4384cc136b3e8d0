use Rattle.s3_world.proofs.Storing.{is_driven}
use Rattle.s3_world.proofs.world.S3World.need.Goals as goal

pub returns : goal.returns
returns c = λ s d. c.need.ensures s (is_driven c.args.self.now s d)
