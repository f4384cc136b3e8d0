use Rattle.phase_limits.proofs.Leaving.{leaves}
use Rattle.phase_limits.proofs.each_phase_leaves_fewer.Goals as goal

pub returns : goal.returns
returns c = λ h id block stage end now some within few. leaves h id block stage end now some within few
