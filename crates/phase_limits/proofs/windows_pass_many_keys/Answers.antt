use Rattle.phase_limits.proofs.Windows.{window_passes}
use Rattle.phase_limits.proofs.windows_pass_many_keys.Goals as goal

pub returns : goal.returns
returns g c = λ join s laws keys position prefix after limit a b end long pa pb ka kb e. window_passes join s laws keys position prefix after limit a b end long pa pb ka kb e
