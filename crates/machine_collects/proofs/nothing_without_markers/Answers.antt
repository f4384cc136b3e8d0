use Rattle.machine_collects.proofs.Unmarked.{none_collected}
use Rattle.machine_collects.proofs.nothing_without_markers.Goals as goal

pub returns : goal.returns
returns g c join s k trio trio_roles moves unmarked = none_collected _ _ join s unmarked k trio trio_roles moves
