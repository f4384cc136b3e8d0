use Rattle.std.proofs.Common.{cond, Some, ◌∙◌, arith}
use Rattle.std.specs.BTreeMap.{get}
use Rattle.std.specs.Ordering.{is_eq}
use Rattle.node_parts.specs.Walks.{walk_cmp}
use Rattle.node_parts.proofs.KeptWalks.{one_begun, all_begun, none_in}
use Rattle.node_parts.proofs.walks.Walks.begin.Goals as goal

pub loop-walk-preserved-in_ok-insert : goal.loop-walk-preserved-in_ok-insert
loop-walk-preserved-in_ok-insert c =
    let w = c.in-Some.walk in
    one_begun c.args.self.now c.loop-walk.self (record { by_place = c.insert.new.self }) c.args.begun.items c.loop-walk.left.items c.pop.new.self.items w c.in-Some.ensures.items
    (λ k. c.in_ok-insert.ensures.updates.0 k ∙ (λ i. cond (is_eq (walk_cmp (c.partition.ensures i, w.node) k)) (Some w.state) (get walk_cmp c.loop-walk.self.by_place k)))
    c.loop-walk.invariant

pub loop-walk-preserved : goal.loop-walk-preserved
loop-walk-preserved c =
    let w = c.in-Some.walk in
    one_begun c.args.self.now c.loop-walk.self (record { by_place = c.insert.new.self }) c.args.begun.items c.loop-walk.left.items c.pop.new.self.items w c.in-Some.ensures.items
    (λ k. c.in_ok-insert.ensures.updates.0 k ∙ (λ i. cond (is_eq (walk_cmp (c.partition.ensures i, w.node) k)) (Some w.state) (get walk_cmp c.loop-walk.self.by_place k)))
    c.loop-walk.invariant

pub returns-clause-begins : goal.returns-clause-begins
returns-clause-begins c walks are =
    all_begun c.args.self.now c.loop-walk.self c.args.begun.items c.loop-walk.left.items walks
    (none_in c.loop-walk.left.items (omega (arith, c.in_default.ensures.cases.0, c.loop-walk.left.ok.0))) c.loop-walk.invariant are
