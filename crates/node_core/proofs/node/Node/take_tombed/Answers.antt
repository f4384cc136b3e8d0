use Rattle.std.proofs.Common.{None, ap, sym, subst, ◌∙◌}
use Rattle.gc_model.specs.Collecting.{answer_end, answered}
use Rattle.node_core.specs.Stands.{Done}
use Rattle.node_core.proofs.Collections.{came_last, came_on, with_collections}
use Rattle.node_core.proofs.Nodes.{ok_all, silent}
use Rattle.node_core.proofs.node.Node.take_tombed.Goals as goal

-- in each place: what the answer makes of the collections, and where it leads
pub returns-then-not-is_last-clause-comes : goal.returns-then-not-is_last-clause-comes
returns-then-not-is_last-clause-comes g c =
    let join = g.S.Row.Crdt.join in
    let s = g.S.Schema.words in
    let self = c.args.self.now in
    let a = c.args in (
      (λ id x is.
          let left = c.in_ok-end.ensures.ok ∙ ap (answered a.collection a.round a.from a.named a.now) is.gc in
          let leads = sym (c.in_ok-end.ensures.end ∙ ap (answer_end a.collection a.round a.from a.named) is.gc) in
          let came = came_on join s id x a.collection a.round a.from a.named a.now c.in_ok-end.end leads (c.is_last.ensures.goes_on c.if-not-is_last.true) in
          subst (Done join s (record self { gc = c.tombed.new.self }) id a.out.now.items a.out.now.items None) (sym came)
          (silent (record self { gc = c.tombed.new.self }) id (record x { gc = answered a.collection a.round a.from a.named a.now x.gc }) a.out.now.items (with_collections self id x c.tombed.new.self (answered a.collection a.round a.from a.named a.now x.gc) is left))),
      (λ id x is.
          let leads = sym (c.in_ok-end.ensures.end ∙ ap (answer_end a.collection a.round a.from a.named) is.gc) in
          sym (ap (λ d. d.dropped) (came_on join s id x a.collection a.round a.from a.named a.now c.in_ok-end.end leads (c.is_last.ensures.goes_on c.if-not-is_last.true)))),
    )

pub returns-clause-comes : goal.returns-clause-comes
returns-clause-comes g c = ok_all c.finish.result c.finish.ensures.finishes (λ dropped drops.
    let join = g.S.Row.Crdt.join in
    let s = g.S.Schema.words in
    let self = c.args.self.now in
    let a = c.args in
    let last = c.is_last.ensures.last c.if-not-is_last.false in (
      (λ id x is.
          let left = c.in_ok-end.ensures.ok ∙ ap (answered a.collection a.round a.from a.named a.now) is.gc in
          let leads = sym (c.in_ok-end.ensures.end ∙ ap (answer_end a.collection a.round a.from a.named) is.gc) ∙ last.0 in
          let after = answered a.collection a.round a.from a.named a.now x.gc in
          subst (Done join s c.finish.new.self id a.out.now.items c.finish.new.out.items None) (came_last join s id x a.collection a.round a.from a.named a.now leads last.1)
          (drops.0 id (record x { gc = after }) (with_collections self id x c.tombed.new.self after is left))),
      (λ id x is.
          let left = c.in_ok-end.ensures.ok ∙ ap (answered a.collection a.round a.from a.named a.now) is.gc in
          let leads = sym (c.in_ok-end.ensures.end ∙ ap (answer_end a.collection a.round a.from a.named) is.gc) ∙ last.0 in
          let after = answered a.collection a.round a.from a.named a.now x.gc in
          drops.1 id (record x { gc = after }) (with_collections self id x c.tombed.new.self after is left) ∙ ap (λ d. d.dropped) (came_last join s id x a.collection a.round a.from a.named a.now leads last.1)),
    ))
