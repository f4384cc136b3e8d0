use Rattle.version_laws.proofs.Laws.{safe_at}
use Rattle.version_laws.proofs.views.versions_are_in_order.Goals as goal

pub returns-clause-read_is_stored : goal.returns-clause-read_is_stored
returns-clause-read_is_stored g c r parts w h n = let s = safe_at r parts w h in (s.stored n, s.known n)

pub returns-clause-known_was_applied : goal.returns-clause-known_was_applied
returns-clause-known_was_applied g c r parts w h = (safe_at r parts w h).applied
