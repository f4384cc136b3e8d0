use Rattle.std.proofs.Common.{◌≡◌, false, true, length, arith}
use Rattle.layout_text.proofs.FirstRun.{running_first, running_more, running_ends, running_all}
use Rattle.layout_text.proofs.runs.run_length.Goals as goal

pub loop-i-init : goal.loop-i-init
loop-i-init g c = running_first g.T.PartialEq.eq c.args.values.now

pub returns-then-ne-clause-first : goal.returns-then-ne-clause-first
returns-then-ne-clause-first g c =
    let e : g.T.PartialEq.eq c.index-values-i.result c.index-values-i-in-loop-i.result ≡ false = grind arith in
    running_ends g.T.PartialEq.eq c.args.values.now c.loop-i.i c.index-values-i.result c.loop-i.auto.i (omega arith) c.index-values-i.is c.loop-i.invariant c.index-values-i-in-loop-i.result (omega arith) c.index-values-i-in-loop-i.is e

pub loop-i-preserved : goal.loop-i-preserved
loop-i-preserved g c =
    let e : g.T.PartialEq.eq c.index-values-i.result c.index-values-i-in-loop-i.result ≡ true = grind arith in
    running_more g.T.PartialEq.eq c.args.values.now c.loop-i.i c.index-values-i.result c.loop-i.auto.i (omega arith) c.index-values-i.is c.loop-i.invariant c.index-values-i-in-loop-i.result (omega arith) c.index-values-i-in-loop-i.is e

pub returns-clause-first : goal.returns-clause-first
returns-clause-first g c =
    let e : c.loop-i.i ≡ length c.args.values.now = omega arith in
    rw (← e) (running_all g.T.PartialEq.eq c.args.values.now c.loop-i.i c.loop-i.auto.i e c.loop-i.invariant)
