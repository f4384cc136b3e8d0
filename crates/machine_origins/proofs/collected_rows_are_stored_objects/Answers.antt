use Rattle.machine_origins.proofs.Steps.{all_collected}
use Rattle.machine_origins.proofs.collected_rows_are_stored_objects.Goals as goal

pub returns : goal.returns
returns g c = λ join s k trio trio_roles partitions moves laws is_run r is_there. all_collected laws k trio trio_roles partitions moves is_run r is_there
