use Rattle.drain_limits.proofs.Draining.{drains_paid}
use Rattle.drain_limits.proofs.drains_send_few.Goals as goal

pub returns : goal.returns
returns g c = λ join s k trio trio_roles choice keys n w known equal. drains_paid join s k trio trio_roles choice keys n w known equal
