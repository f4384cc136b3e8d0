use Rattle.std.proofs.Common.{arith}
use Rattle.std.proofs.lemmas.List.{take_all}
use Rattle.node_parts.proofs.Posting.{posts_none, sent_to_next, sent_to_all}
use Rattle.node_parts.proofs.posts.share_with.Goals as goal

pub loop-to-init : goal.loop-to-init
loop-to-init g c = posts_none c.args.from c.args.out.now.items

pub loop-to-preserved : goal.loop-to-preserved
loop-to-preserved g c = sent_to_next c.args.from c.args.out.now.items c.loop-to.out.items c.post.new.out.items c.args.nodes.now c.loop-to.to-index 0 c.args.message.now _ c.loop-to-test.true c.in_ok-share.ensures.same c.loop-to.invariant c.in_ok-post.ensures.sent

pub returns-clause-sent : goal.returns-clause-sent
returns-clause-sent g c = sent_to_all c.args.from c.args.out.now.items c.loop-to.out.items c.args.nodes.now _ c.args.message.now (take_all c.loop-to.to-index c.args.nodes.now (omega (arith, c.loop-to-test.false))) c.loop-to.invariant
