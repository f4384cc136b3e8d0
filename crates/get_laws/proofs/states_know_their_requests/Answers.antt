use Rattle.get_laws.proofs.Knowing.{start_knows, acts_know}
use Rattle.get_laws.proofs.states_know_their_requests.Goals as goal

pub returns-clause-begins : goal.returns-clause-begins
returns-clause-begins c = start_knows

pub returns-clause-keeps : goal.returns-clause-keeps
returns-clause-keeps c s acts lawful known = acts_know s acts lawful known
