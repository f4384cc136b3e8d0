use Rattle.std.proofs.Common.{◌+◌, take, get_or, refl, sym, ap, subst, ◌∙◌}
use Rattle.table_model.specs.Rows.{rows_in}
use Rattle.walk_model.specs.Noting.{tables_of}
use Rattle.walk_model.specs.Walking.{begun}
use Rattle.cluster_machine.specs.Layouts.{layouts}
use Rattle.cluster_machine.specs.Rounds.{first_asks}
use Rattle.node_parts.specs.declared.walks.NodeWalk.{NodeWalk}
use Rattle.node_parts.specs.Sends.{Sent, Starts}
use Rattle.node_parts.specs.Walks.{walk_of, LacksSpelling}
use Rattle.node_parts.proofs.Faults.{passed_on}
use Rattle.node_parts.proofs.WalkSends.{starts_next}
use Rattle.node_parts.proofs.sender.Sender.start.Goals as goal

pub returns-in_err-ask_first-clause-causes : goal.returns-in_err-ask_first-clause-causes
returns-in_err-ask_first-clause-causes g c =
    let join = g.S.Row.Crdt.join in
    let words = g.S.Schema.words in
    passed_on c.from_residual-in_err-ask_first.result c.in_err-ask_first.field-0.0 c.from_residual-in_err-ask_first.ensures.1 c.in_err-ask_first.ensures.causes
    (λ lacks. subst (λ p. LacksSpelling join words c.args.contents.now p) (ap (λ z. z.partition) c.in_ok-state.ensures.begun)
    (subst (λ z. LacksSpelling join words z c.in_ok-state.state.partition) c.loop-node.invariant.same lacks))

pub loop-node-preserved : goal.loop-node-preserved
loop-node-preserved g c =
    let join = g.S.Row.Crdt.join in
    let words = g.S.Schema.words in
    let from = c.args.self in
    let contents = c.args.contents.now in
    let p = c.args.p in
    let nodes = c.args.nodes.now in
    let i = c.loop-node.node-index in
    let w : NodeWalk = record { node = get_or nodes i 0; state = c.in_ok-state.state } in
    let asked = subst (λ z. Sent join words from z c.loop-node.out.items c.ask_first.new.out.items (λ x. first_asks join words layouts x from.round (walk_of w))) c.loop-node.invariant.same c.in_ok-ask_first.ensures.asks in
    record {
      starts = subst (λ l. Starts join words from contents p (take (i + 1) nodes) c.args.out.now.items c.ask_first.new.out.items c.args.begun.now.items l) (sym c.in_ok-push.ensures.items)
          (starts_next join words from contents p nodes c.args.out.now.items c.loop-node.out.items c.ask_first.new.out.items c.args.begun.now.items c.loop-node.begun.items w c.in_ok-tables.tables.items i 0 (get_or nodes i 0) c.loop-node-test.true refl
          (λ x is. c.in_ok-tables.ensures.are ∙ ap (λ z. tables_of words (rows_in words p z.table)) c.in_ok-settle.ensures.unchanged ∙ ap (λ t. tables_of words (rows_in words p t)) is.table)
          (λ j. record { node = get_or nodes i 0; state = (c.in_ok-state.ensures.begun ∙ ap (begun p) c.as_slice.ensures.value) j })
          c.loop-node.invariant.starts asked);
      same = c.in_ok-ask_first.ensures.unchanged ∙ c.loop-node.invariant.same;
    }
