use Rattle.version_laws.proofs.Laws.{moves_at}
use Rattle.version_laws.proofs.whole.moves.Goals as goal

pub returns : goal.returns
returns g c = moves_at
