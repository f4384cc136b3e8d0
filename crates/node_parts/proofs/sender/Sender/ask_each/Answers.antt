use Rattle.std.proofs.Common.{subst}
use Rattle.node_parts.specs.Walks.{LacksSpelling}
use Rattle.node_parts.proofs.Faults.{passed_on}
use Rattle.node_parts.proofs.sender.Sender.ask_each.Goals as goal

pub returns-in_err-ask-clause-causes : goal.returns-in_err-ask-clause-causes
returns-in_err-ask-clause-causes g c =
    passed_on c.from_residual.result c.in_err-ask.field-0.0 c.from_residual.ensures.1 c.in_err-ask.ensures.causes
    (λ lacks. subst (λ z. LacksSpelling g.S.Row.Crdt.join g.S.Schema.words z c.args.p) c.loop-prefix.invariant.same lacks)
