use Rattle.std.proofs.Common.{subst}
use Rattle.node_parts.specs.Walks.{LacksSpelling}
use Rattle.node_parts.proofs.Faults.{passed_on}
use Rattle.node_parts.proofs.WalkSends.{cannot_all}
use Rattle.node_parts.proofs.sender.Sender.start_all.Goals as goal

pub returns-in_err-start-clause-causes : goal.returns-in_err-start-clause-causes
returns-in_err-start-clause-causes g c =
    passed_on c.from_residual.result c.in_err-start.field-0.0 c.from_residual.ensures.1 c.in_err-start.ensures.causes
    (λ lacks. cannot_all g.S.Row.Crdt.join g.S.Schema.words (λ place. (place.0, place.1.items)) c.args.contents.now c.args.places.now c.loop-p.p-index c.loop-p-item.result c.loop-p-test.true c.loop-p-item.is
    (subst (λ z. LacksSpelling g.S.Row.Crdt.join g.S.Schema.words z c.loop-p-item.result.0) c.loop-p.invariant.same lacks))
