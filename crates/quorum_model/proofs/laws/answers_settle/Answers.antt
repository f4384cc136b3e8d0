use Rattle.quorum_model.proofs.Settling.{two_later, two_again}
use Rattle.quorum_model.proofs.laws.answers_settle.Goals as goal

pub returns-clause-later : goal.returns-clause-later
returns-clause-later g c = two_later

pub returns-clause-again : goal.returns-clause-again
returns-clause-again g c = two_again
