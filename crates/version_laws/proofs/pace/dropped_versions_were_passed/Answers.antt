use Rattle.version_laws.proofs.Laws.{safe_at}
use Rattle.version_laws.proofs.pace.dropped_versions_were_passed.Goals as goal

pub returns-clause-passed : goal.returns-clause-passed
returns-clause-passed g c r parts w h = (safe_at r parts w h).passed

pub returns-clause-behind : goal.returns-clause-behind
returns-clause-behind g c r parts w h = (safe_at r parts w h).behind
