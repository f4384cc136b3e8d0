use Rattle.k2v_api.specs.Stop.{ended}
use Rattle.k2v_api.proofs.command.stopped.Goals as goal

pub returns-in-TooManyEvents-clause-says : goal.returns-in-TooManyEvents-clause-says
returns-in-TooManyEvents-clause-says g c = ended (rw c.in-TooManyEvents.is c.ends.ensures.says)

pub returns-in-Number-clause-says : goal.returns-in-Number-clause-says
returns-in-Number-clause-says g c = ended (rw c.in-Number.is c.ends-in-Number.ensures.says)

pub returns-in-Sent-clause-says : goal.returns-in-Sent-clause-says
returns-in-Sent-clause-says g c = ended (rw c.in-Sent.is c.ends-in-Sent.ensures.says)
