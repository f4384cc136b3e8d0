use Rattle.version_laws.proofs.Laws.{safe_at, rises_at}
use Rattle.version_laws.proofs.pace.read_versions_rise_by_one.Goals as goal

pub returns-clause-greatest : goal.returns-clause-greatest
returns-clause-greatest g c r parts w h = (safe_at r parts w h).greatest

pub returns-clause-by_one : goal.returns-clause-by_one
returns-clause-by_one g c r parts w s h v n real is all = (rises_at r parts w s h v n real is all).by_one

pub returns-clause-after_rounds : goal.returns-clause-after_rounds
returns-clause-after_rounds g c r parts w s h v n real is all = (rises_at r parts w s h v n real is all).two
