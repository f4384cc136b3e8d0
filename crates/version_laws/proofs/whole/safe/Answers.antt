use Rattle.version_laws.proofs.Laws.{safe_at}
use Rattle.version_laws.proofs.whole.safe.Goals as goal

pub returns : goal.returns
returns g c = safe_at
