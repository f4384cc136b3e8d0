use Rattle.std.proofs.Common.{None, true, refl, ap, sym, subst, ◌∙◌}
use Rattle.view_model.specs.Layouts.{reading}
use Rattle.view_model.specs.View.{newest}
use Rattle.wire_messages.specs.declared.message.Message.TheVariants.{Tombed}
use Rattle.cluster_machine.specs.Layouts.{layouts}
use Rattle.cluster_machine.specs.Collects.{merges}
use Rattle.cluster_machine.specs.Receives.{answers}
use Rattle.node_parts.specs.Contents.{Became, Holds}
use Rattle.node_parts.proofs.Faults.{ok_to, passed_on}
use Rattle.node_core.specs.Stands.{Done}
use Rattle.node_core.proofs.Nodes.{with_contents}
use Rattle.node_core.proofs.Replies.{replies}
use Rattle.node_core.proofs.node.Node.take_tomb.Goals as goal

pub returns-clause-takes : goal.returns-clause-takes
returns-clause-takes g c = ok_to c.send.result c.send.ensures.sent (λ sent id x is.
    let join = g.S.Row.Crdt.join in
    let s = g.S.Schema.words in
    let self = c.args.self.now in
    let y = merges join s layouts id c.args.now x (s.read c.args.row.now) in
    let became : Became join s c.merge.new.self x y = subst (λ n. Became join s c.merge.new.self x (merges join s layouts n c.args.now x (s.read c.args.row.now))) is.id_is (c.in_ok-merge.ensures.merges x is.view is.contents) in
    let stands = with_contents self id x y c.merge.new.self is became in
    let named = c.newest.ensures ∙ ap (newest reading) is.view in
    subst (λ n. Done join s (record self { contents = c.merge.new.self }) id c.args.out.now.items c.send.new.out.items None (answers y c.args.from (Tombed c.args.collection c.args.round n))) named
    (replies (record self { contents = c.merge.new.self }) id y c.args.from (Tombed c.args.collection c.args.round c.newest.result) true c.args.out.now.items c.send.new.out.items stands sent (λ h. refl)))

pub returns-in_err-merge-clause-causes : goal.returns-in_err-merge-clause-causes
returns-in_err-merge-clause-causes g c = passed_on c.from_residual.result c.in_err-merge.field-0.0 c.from_residual.ensures.1 c.in_err-merge.ensures.causes (λ cannot id x is fits.
    let join = g.S.Row.Crdt.join in
    let s = g.S.Schema.words in
    cannot x is.view is.contents (subst (λ n. Holds s (merges join s layouts n c.args.now x (s.read c.args.row.now))) (sym is.id_is) fits.items))
