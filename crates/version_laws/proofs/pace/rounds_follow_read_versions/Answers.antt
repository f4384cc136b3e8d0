use Rattle.version_laws.proofs.Laws.{safe_at}
use Rattle.version_laws.proofs.pace.rounds_follow_read_versions.Goals as goal

pub returns-clause-reached : goal.returns-clause-reached
returns-clause-reached g c r parts w h t has = ((safe_at r parts w h).rounds t has).reached

pub returns-clause-known : goal.returns-clause-known
returns-clause-known g c r parts w h t has = ((safe_at r parts w h).rounds t has).on

pub returns-clause-completed : goal.returns-clause-completed
returns-clause-completed g c r parts w h = (safe_at r parts w h).completed

pub returns-clause-open : goal.returns-clause-open
returns-clause-open g c r parts w h = (safe_at r parts w h).open_rounds
