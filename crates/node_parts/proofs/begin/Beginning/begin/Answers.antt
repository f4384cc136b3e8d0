use Rattle.std.proofs.Common.{subst}
use Rattle.wire_messages.specs.declared.message.Message.TheVariants.{Get, Range, BlockGet}
use Rattle.node_parts.specs.Begins.{StoresAll}
use Rattle.node_parts.proofs.FirstSends.{asks, not_resting, read_begins, range_begins, block_begins, store_begins}
use Rattle.node_parts.proofs.begin.Beginning.begin.Goals as goal

pub returns-in_default-clause-begins : goal.returns-in_default-clause-begins
returns-in_default-clause-begins g c =
    not_resting g.S.Schema.words c.args.self c.args.view.now c.args.out.now.items c.args.out.now.items c.args.phase.now (λ some. let never = c.in_default.ensures.stored some in cc)

pub returns-in_default-nodes_at-clause-begins : goal.returns-in_default-nodes_at-clause-begins
returns-in_default-nodes_at-clause-begins g c =
    not_resting g.S.Schema.words c.args.self c.args.view.now c.args.out.now.items c.args.out.now.items c.args.phase.now (λ some. let never = c.in_default-nodes_at.ensures.stored some in cc)

pub returns-in_default-nodes_at-2-clause-begins : goal.returns-in_default-nodes_at-2-clause-begins
returns-in_default-nodes_at-2-clause-begins g c =
    not_resting g.S.Schema.words c.args.self c.args.view.now c.args.out.now.items c.args.out.now.items c.args.phase.now (λ some. let never = c.in_default-nodes_at-2.ensures.stored some in cc)

pub returns-in_ok-send_each-in-Read-clause-begins : goal.returns-in_ok-send_each-in-Read-clause-begins
returns-in_ok-send_each-in-Read-clause-begins g c =
    let b = c.args.self in
    let p = c.in-Read in
    let view = c.args.view.now in
    let old = c.args.out.now.items in
    let new = c.send_each.new.out.items in
    rw p.is (read_begins g.S.Schema.words b view old new p.table p.position p.key c.in-Some.nodes c.new.result c.new.ensures
    (asks b view old new p.position.0 c.in-Some.nodes _ _ (λ i. Get b.request b.phase (c.read_version-at.ensures i) p.table (c.in_ok-copy-in-Read.ensures.same i)) c.in-Some.ensures.are c.in_ok-send_each-in-Read.ensures.sent))

pub returns-in_ok-send_each-in-Range-clause-begins : goal.returns-in_ok-send_each-in-Range-clause-begins
returns-in_ok-send_each-in-Range-clause-begins g c =
    let b = c.args.self in
    let p = c.in-Range in
    let view = c.args.view.now in
    let old = c.args.out.now.items in
    let new = c.send_each-in-Range.new.out.items in
    rw p.is (range_begins g.S.Schema.words b view old new p.position p.prefix p.after c.in-Some-nodes_at.nodes c.new-in-Range.result c.new-in-Range.ensures
    (asks b view old new p.position.0 c.in-Some-nodes_at.nodes _ _ (λ i. Range b.request b.phase (c.read_version-at.ensures i) p.position (c.in_ok-copy-in-Range.ensures.same i) (c.in_ok-copy-in-Range-2.ensures.same i)) c.in-Some-nodes_at.ensures.are c.in_ok-send_each-in-Range.ensures.sent))

pub returns-in_ok-store_all-in-Store-clause-begins : goal.returns-in_ok-store_all-in-Store-clause-begins
returns-in_ok-store_all-in-Store-clause-begins g c =
    let b = c.args.self in
    let view = c.args.view.now in
    let old = c.args.out.now.items in
    let new = c.store_all.new.out.items in
    let call = c.in_ok-store_all-in-Store.field-0 in
    rw c.in-Store.is (store_begins g.S.Schema.words b view old new c.in-Store.rows call
    (subst (λ rows. StoresAll g.S.Schema.words b view rows old new call) c.as_slice.ensures c.in_ok-store_all-in-Store.ensures.stores))

pub returns-in_ok-send_each-in-Block-clause-begins : goal.returns-in_ok-send_each-in-Block-clause-begins
returns-in_ok-send_each-in-Block-clause-begins g c =
    let b = c.args.self in
    let p = c.in-Block in
    let view = c.args.view.now in
    let old = c.args.out.now.items in
    let new = c.send_each-in-Block.new.out.items in
    rw p.is (block_begins g.S.Schema.words b view old new p.hash c.in-Some-nodes_at-2.nodes
    (asks b view old new p.hash.0 c.in-Some-nodes_at-2.nodes _ _ (λ i. BlockGet b.request b.phase (c.read_version-at.ensures i) p.hash) c.in-Some-nodes_at-2.ensures.are c.in_ok-send_each-in-Block.ensures.sent))
