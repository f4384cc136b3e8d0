use Rattle.version_laws.proofs.Laws.{moves_at}
use Rattle.version_laws.proofs.views.nothing_falls.Goals as goal

pub returns-clause-views : goal.returns-clause-views
returns-clause-views g c r parts w s h = (moves_at r parts w s h).views

pub returns-clause-reads : goal.returns-clause-reads
returns-clause-reads g c r parts w s h = (moves_at r parts w s h).reads

pub returns-clause-layouts : goal.returns-clause-layouts
returns-clause-layouts g c r parts w s h = (moves_at r parts w s h).layouts

pub returns-clause-sent : goal.returns-clause-sent
returns-clause-sent g c r parts w s h = (moves_at r parts w s h).sent

pub returns-clause-began : goal.returns-clause-began
returns-clause-began g c r parts w s h = (moves_at r parts w s h).began

pub returns-clause-completed : goal.returns-clause-completed
returns-clause-completed g c r parts w s h = (moves_at r parts w s h).completed

pub returns-clause-applied : goal.returns-clause-applied
returns-clause-applied g c r parts w s h = (moves_at r parts w s h).top
