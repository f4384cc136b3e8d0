use Rattle.std.proofs.Common.{inr, refl, arith}
use Rattle.node_parts.proofs.Faults.{passed_on}
use Rattle.world_core.proofs.Posts.{push_post, too_great, too_many, too_many_sent}
use Rattle.world_core.proofs.post.put.Goals as goal

pub returns-in_default-clause-causes : goal.returns-in_default-clause-causes
returns-in_default-clause-causes g c =
    inr (refl, λ messages marks m p sent. too_many_sent g.S.Schema.words c.args.post.now messages marks m c.in_default.ensures p)

pub returns-in_err-size-clause-causes : goal.returns-in_err-size-clause-causes
returns-in_err-size-clause-causes g c =
    passed_on c.from_residual.result c.in_err-size.field-0.0 c.from_residual.ensures.1 c.in_err-size.ensures.causes
    (λ not messages marks m p sent. too_great g.S.Schema.words messages m c.args.envelope not sent)

pub returns-in_default-checked_add-clause-causes : goal.returns-in_default-checked_add-clause-causes
returns-in_default-checked_add-clause-causes g c =
    inr (refl, λ messages marks m p sent. too_many g.S.Schema.words c.args.post.now messages marks m c.args.envelope c.in_ok-size.size c.in_ok-size.ensures.is c.in_default-checked_add.ensures p sent)

pub returns-clause-sent : goal.returns-clause-sent
returns-clause-sent g c messages marks m p sent =
    push_post g.S.Schema.words c.args.post.now _ messages marks m c.args.envelope c.in_ok-size.size p sent c.in_ok-size.ensures.is c.in_ok-push_back.ensures.items refl (omega arith)
    (omega arith) (omega arith) (omega arith)
