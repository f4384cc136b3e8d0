use Rattle.std.proofs.Common.{ap, sym, subst, ◌∙◌}
use Rattle.blake2_hash.specs.Blake2b.{blake2b}
use Rattle.table_model.specs.Rows.{find_row}
use Rattle.wire_messages.specs.declared.message.Message.TheVariants.{Forget}
use Rattle.cluster_machine.specs.Phases.{to_each}
use Rattle.cluster_machine.specs.Collects.{without_row}
use Rattle.node_parts.specs.Collects.{marker_of}
use Rattle.node_parts.specs.Contents.{Became}
use Rattle.node_parts.specs.Posts.{Posts}
use Rattle.node_parts.proofs.Collected.{ends_it, ends_none}
use Rattle.node_parts.proofs.collector.Collector.end.Goals as goal

pub returns-then-not-branch-clause-ends : goal.returns-then-not-branch-clause-ends
returns-then-not-branch-clause-ends g c x is =
    ends_none g.met.S.Schema.laws c.args.contents.now x is c.args.self c.args.ended.now c.args.out.now.items (sym c.in_ok-still_stands.ensures.is ∙ c.if-not-branch.true)

pub returns-clause-ends : goal.returns-clause-ends
returns-clause-ends g c x is =
    let o = c.args.ended.now in
    ends_it g.met.S.Schema.laws c.args.contents.now x is c.args.self o c.args.out.now.items c.drop_row.new.self c.send_each.new.out.items c.in_ok-dropped.dropped c.blake2b_256.result
    (c.blake2b_256.ensures ∙ ap (λ bytes. blake2b 32 bytes) c.as_slice-2.ensures)
    (subst (λ key. Became g.S.Row.Crdt.join g.S.Schema.words c.drop_row.new.self x (without_row g.S.Row.Crdt.join g.S.Schema.words x 1 key)) c.as_slice.ensures (c.in_ok-dropped.ensures.drops x is))
    (subst (Posts c.args.self.node c.args.out.now.items c.send_each.new.out.items)
    (λ i. to_each ((c.as_slice-3.ensures.value ∙ c.in_ok-others.ensures.are) i) (Forget 1 (c.in_ok-copy.ensures.same i) c.blake2b_256.result)) c.in_ok-send_each.ensures.sent)
    (sym c.in_ok-still_stands.ensures.is ∙ c.if-not-branch.false) (c.in_ok-dropped.ensures.marker ∙ ap (λ key. marker_of g.S.Schema.words (find_row g.S.Schema.words 1 key c.args.contents.now.table)) c.as_slice.ensures)
