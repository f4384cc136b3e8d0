use Rattle.k2v_world.proofs.Causes.{same_causes}
use Rattle.k2v_world.proofs.Delivers.{goes_overflows}
use Rattle.k2v_world.proofs.world.ItemWorld.goes_on.Goals as goal

pub returns-clause-causes : goal.returns-clause-causes
returns-clause-causes c = same_causes c.follow.result (goes_overflows c.args.self.now c.args.ends _ c.remove-request.ensures.value) c.follow.ensures.causes
