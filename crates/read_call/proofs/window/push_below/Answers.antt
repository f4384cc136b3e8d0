use Rattle.std.proofs.Common.{sym, ap, ◌∙◌, ◌++◌, arith}
use Rattle.quorum_model.specs.Window.{key_cmp, rows_within}
use Rattle.read_call.proofs.Walking.{next_copied, next_equal, next_above, next_none}
use Rattle.read_call.proofs.window.push_below.Goals as goal

pub returns-in-Equal-clause-below : goal.returns-in-Equal-clause-below
returns-in-Equal-clause-below g c y ys =
    ap (λ l. c.loop-count.rows.items ++ rows_within c.args.end.now l)
    (sym (next_equal g.S.Schema.words g.S.Row.Crdt.join c.args.first.now c.loop-count.count c.index-first-count.result c.args.key.now y ys c.loop-count-test.true c.index-first-count.is (ap (λ k. key_cmp k c.args.key.now) (sym c.in_ok-own.ensures.is) ∙ (sym c.cmp.ensures ∙ c.in-Equal.is))))
    ∙ c.loop-count.invariant.below y ys

pub returns-in-Greater-clause-below : goal.returns-in-Greater-clause-below
returns-in-Greater-clause-below g c y ys =
    ap (λ l. c.loop-count.rows.items ++ rows_within c.args.end.now l)
    (sym (next_above g.S.Schema.words g.S.Row.Crdt.join c.args.first.now c.loop-count.count c.index-first-count.result c.args.key.now y ys c.loop-count-test.true c.index-first-count.is (ap (λ k. key_cmp k c.args.key.now) (sym c.in_ok-own.ensures.is) ∙ (sym c.cmp.ensures ∙ c.in-Greater.is))))
    ∙ c.loop-count.invariant.below y ys

pub loop-count-preserved : goal.loop-count-preserved
loop-count-preserved g c = record {
  within = omega arith;
  below = λ y ys.
      next_copied g.S.Schema.words g.S.Row.Crdt.join c.args.first.now c.loop-count.count c.index-first-count.result c.args.key.now y ys c.loop-count-test.true c.index-first-count.is c.args.end.now c.in_ok-own.own c.loop-count.rows.items c.push_copy.new.rows.items _
      (ap (λ k. key_cmp k c.args.key.now) (sym c.in_ok-own.ensures.is) ∙ (sym c.cmp.ensures ∙ c.in-Less.is)) c.in_ok-own.ensures.is c.in_ok-push_copy-in-Less.ensures.copied (c.loop-count.invariant.below y ys);
}

pub returns-clause-below : goal.returns-clause-below
returns-clause-below g c y ys =
    ap (λ l. c.loop-count.rows.items ++ rows_within c.args.end.now l)
    (sym (next_none g.S.Schema.words g.S.Row.Crdt.join c.args.first.now c.loop-count.count c.args.key.now y ys c.loop-count-test.false))
    ∙ c.loop-count.invariant.below y ys
