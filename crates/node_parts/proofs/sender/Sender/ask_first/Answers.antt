use Rattle.std.proofs.Common.{subst}
use Rattle.node_parts.specs.Walks.{LacksSpelling}
use Rattle.node_parts.proofs.Faults.{passed_on}
use Rattle.node_parts.proofs.sender.Sender.ask_first.Goals as goal

pub returns-in_err-ask-clause-causes : goal.returns-in_err-ask-clause-causes
returns-in_err-ask-clause-causes g c =
    passed_on c.from_residual.result c.in_err-ask.field-0.0 c.from_residual.ensures.1 c.in_err-ask.ensures.causes
    (λ lacks. subst (λ p. LacksSpelling g.S.Row.Crdt.join g.S.Schema.words c.args.contents.now p) c.partition-p.ensures
    (subst (λ z. LacksSpelling g.S.Row.Crdt.join g.S.Schema.words z c.partition-p.result) c.loop-table.invariant.same lacks))
