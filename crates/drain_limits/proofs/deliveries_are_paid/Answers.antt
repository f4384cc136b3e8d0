use Rattle.drain_limits.proofs.Draining.{delivery_paid}
use Rattle.drain_limits.proofs.deliveries_are_paid.Goals as goal

pub returns : goal.returns
returns g c = λ join s k trio trio_roles choice keys w m known equal e. delivery_paid join s k trio trio_roles choice keys w m known equal e
