use Rattle.version_laws.proofs.Laws.{safe_at, same_layouts}
use Rattle.version_laws.proofs.views.layouts_agree.Goals as goal

pub returns-clause-stored : goal.returns-clause-stored
returns-clause-stored g c r parts w h = same_layouts r parts w h

pub returns-clause-applied : goal.returns-clause-applied
returns-clause-applied g c r parts w h n i s = (safe_at r parts w h).layouts n i s.0 s.1

pub returns-clause-lawful : goal.returns-clause-lawful
returns-clause-lawful g c r parts w h = (safe_at r parts w h).lawful
