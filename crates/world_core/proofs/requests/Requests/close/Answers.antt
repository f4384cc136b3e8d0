use Rattle.std.proofs.Common.{false, ap, arith}
use Rattle.world_core.proofs.Asked.{shut_at}
use Rattle.world_core.proofs.requests.Requests.close.Goals as goal

pub returns-then-number-len : goal.returns-then-number-len
returns-then-number-len c =
    rw (← c.self.view_is)
    (shut_at c.self.inside.list.items c.args.number c.index_mut.result.now _ (omega arith) (omega arith) (ap (λ r. record { coordinator = r.coordinator; is_open = false }) c.index_mut.ensures.value))
