use Rattle.s3_world.proofs.Causes.{same_causes}
use Rattle.s3_world.proofs.Delivers.{goes_overflows}
use Rattle.s3_world.proofs.driver.Driver.goes_on.Goals as goal

pub returns-clause-causes : goal.returns-clause-causes
returns-clause-causes g c = same_causes c.follow.result (goes_overflows c.args.self.now c.args.ends _ c.remove-request.ensures.value) c.follow.ensures.causes
