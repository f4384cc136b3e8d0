use Rattle.std.proofs.Common.{arith}
use Rattle.audit_play.proofs.Common.{past_second}
use Rattle.audit_play.proofs.parting.common.Goals as goal

pub returns-else-n-b-clause-same : goal.returns-else-n-b-clause-same
returns-else-n-b-clause-same c =
    let none = past_second c.args.a.now c.args.b.now c.loop-n.n (omega arith) in
    let all = c.loop-n.invariant.same in
    omega arith
