use Rattle.version_laws.proofs.Laws.{safe_at}
use Rattle.version_laws.proofs.pace.requests_hold_back.Goals as goal

pub returns-clause-acked : goal.returns-clause-acked
returns-clause-acked g c r parts w h n q has = ((safe_at r parts w h).requests n q has).acked

pub returns-clause-reads : goal.returns-clause-reads
returns-clause-reads g c r parts w h n q has = ((safe_at r parts w h).requests n q has).least

pub returns-clause-rounds : goal.returns-clause-rounds
returns-clause-rounds g c r parts w h n q has = ((safe_at r parts w h).requests n q has).late

pub returns-clause-member : goal.returns-clause-member
returns-clause-member g c r parts w h n q has = ((safe_at r parts w h).requests n q has).member

pub returns-clause-known : goal.returns-clause-known
returns-clause-known g c r parts w h n q has = let one = (safe_at r parts w h).requests n q has in (one.real, one.known)
