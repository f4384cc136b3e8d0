use Rattle.get_laws.specs.OnTheWay.{opening}
use Rattle.get_laws.proofs.Ending.{opened_gives, goes_on_with, finds_on}
use Rattle.get_laws.proofs.a_get_goes_on_with_what_it_gave.Goals as goal

pub returns-clause-gives : goal.returns-clause-gives
returns-clause-gives c s t u n bucket key known then_t then_u = goes_on_with (opening s n bucket key) t u (opened_gives s n bucket key known) then_t then_u

pub returns-clause-found : goal.returns-clause-found
returns-clause-found c s t u n bucket key found known then_t then_u is = finds_on (opening s n bucket key) t u found (opened_gives s n bucket key known) then_t then_u is
