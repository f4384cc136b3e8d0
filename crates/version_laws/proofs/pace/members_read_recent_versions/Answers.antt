use Rattle.version_laws.proofs.Laws.{safe_at}
use Rattle.version_laws.proofs.pace.members_read_recent_versions.Goals as goal

pub returns-clause-members : goal.returns-clause-members
returns-clause-members g c r parts w h = (safe_at r parts w h).members

pub returns-clause-coordinators : goal.returns-clause-coordinators
returns-clause-coordinators g c r parts w h n q has = ((safe_at r parts w h).requests n q has).recent
