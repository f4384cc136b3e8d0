use Rattle.std.proofs.Common.{◌≡◌, None, refl, ap, subst, ◌∙◌}
use Rattle.std.specs.List.{flat_map}
use Rattle.layout_trackers.specs.declared.which.Which.TheVariants.{Ack, SyncAck}
use Rattle.view_model.specs.Layouts.{reading}
use Rattle.view_model.specs.View.{newest, read_version}
use Rattle.cluster_machine.specs.declared.step.LocalEnd.TheVariants.{Worked}
use Rattle.cluster_machine.specs.Acts.{least_start, raises, item_posts, without_due}
use Rattle.cluster_machine.specs.Layouts.{layouts}
use Rattle.node_parts.specs.Posts.{Posts}
use Rattle.node_parts.specs.Contents.{IsItem}
use Rattle.node_core.specs.Stands.{Done}
use Rattle.node_parts.proofs.SendingItems.{zip_length}
use Rattle.node_core.proofs.Nodes.{ok_all, items_spelled, with_contents}
use Rattle.node_core.proofs.node.Node.local.Goals as goal

pub returns-in-Ack-clause-acts : goal.returns-in-Ack-clause-acts
returns-in-Ack-clause-acts g c = rw c.in-Ack.is (ok_all c.raise.result c.raise.ensures.raises (λ how acts id x is.
    let join = g.S.Row.Crdt.join in
    let s = g.S.Schema.words in
    let version : c.least_start-version.result ≡ least_start (newest reading x.view) x.calls = c.least_start-version.ensures x.calls is.calls ∙ ap (λ n. least_start n x.calls) (c.newest.ensures ∙ ap (newest reading) is.view) in
    subst (λ n. Done join s c.raise.new.self id c.args.out.now.items c.args.out.now.items None (raises join s layouts id x Ack n).did × (how ≡ (raises join s layouts id x Ack n).how)) version (acts c.args.out.now.items id x is)))

pub returns-in-SyncAck-clause-acts : goal.returns-in-SyncAck-clause-acts
returns-in-SyncAck-clause-acts g c = rw c.in-SyncAck.is (ok_all c.raise-in-SyncAck.result c.raise-in-SyncAck.ensures.raises (λ how acts id x is.
    let join = g.S.Row.Crdt.join in
    let s = g.S.Schema.words in
    let version : c.read_version-version.result ≡ read_version reading x.view = c.read_version-version.ensures ∙ ap (read_version reading) is.view in
    subst (λ n. Done join s c.raise-in-SyncAck.new.self id c.args.out.now.items c.args.out.now.items None (raises join s layouts id x SyncAck n).did × (how ≡ (raises join s layouts id x SyncAck n).how)) version (acts c.args.out.now.items id x is)))

pub returns-in-Clean-clause-acts : goal.returns-in-Clean-clause-acts
returns-in-Clean-clause-acts g c = rw c.in-Clean.is (ok_all c.clean.result c.clean.ensures.cleans (λ how acts. acts c.args.out.now.items))

pub returns-in_ok-blocks-in-Work-clause-acts : goal.returns-in_ok-blocks-in-Work-clause-acts
returns-in_ok-blocks-in-Work-clause-acts g c id x is =
    let join = g.S.Row.Crdt.join in
    let s = g.S.Schema.words in
    let self = c.args.self.now in
    rw c.in-Work.is (
      record {
        stands = with_contents self id x (without_due join s c.args.now x) c.delete_due.new.self is (c.in_ok-blocks-in-Work.ensures.deletes x is.contents);
        posts = subst (λ n. Posts n c.args.out.now.items c.send_waiting.new.out.items (flat_map (item_posts join s layouts x.view) x.items)) is.id_is (c.in_ok-rows-in-Work.ensures.sent x is.view is.contents);
        ends = refl;
        spelled = λ sizes. items_spelled s self.contents.outbox.items x.items is.contents.items;
      },
      λ i. Worked ((c.in_ok-rows-in-Work.ensures.count ∙ zip_length (IsItem s) self.contents.outbox.items x.items is.contents.items) i) (c.in_ok-blocks-in-Work.ensures.count x is.contents i),
    )
