use Rattle.std.proofs.Common.{arith}
use Rattle.node_parts.proofs.Faults.{passed_on}
use Rattle.node_parts.proofs.Gathered.{collected, not_collected, risen}
use Rattle.node_parts.proofs.collector.Collector.collect.Goals as goal

pub overflow_sub-result : goal.overflow_sub-result
overflow_sub-result g c =
    let rose = risen g.S.Row.Crdt.join g.S.Schema.words c.args.contents.now c.args.self c.args.gc.now c.close_gone.new.gc c.about_all.new.gc c.in_ok-keys.keys.keys c.args.out.now.items c.about_all.new.out.items
    c.in_ok-close_gone.ensures.closes c.in_ok-about_all.ensures.about in
    omega (arith, rose, c.begun.ensures, c.begun-before.ensures)

pub returns-in_err-about_all-clause-causes : goal.returns-in_err-about_all-clause-causes
returns-in_err-about_all-clause-causes g c =
    passed_on c.from_residual-in_err-about_all.result c.in_err-about_all.field-0.0 c.from_residual-in_err-about_all.ensures.1 c.in_err-about_all.ensures.causes
    (λ cannot x is same. not_collected g.met.S.Schema.laws c.args.contents.now x is c.args.self c.args.gc.now c.close_gone.new.gc same c.in_ok-close_gone.ensures.closes c.in_ok-keys.keys c.in_ok-keys.ensures.are c.keys.ensures.numbered cannot)

pub returns-clause-collects : goal.returns-clause-collects
returns-clause-collects g c x is same =
    let rose = risen g.S.Row.Crdt.join g.S.Schema.words c.args.contents.now c.args.self c.args.gc.now c.close_gone.new.gc c.about_all.new.gc c.in_ok-keys.keys.keys c.args.out.now.items c.about_all.new.out.items
    c.in_ok-close_gone.ensures.closes c.in_ok-about_all.ensures.about in
    collected g.met.S.Schema.laws c.args.contents.now x is c.args.self c.args.gc.now c.close_gone.new.gc same c.in_ok-close_gone.ensures.closes c.in_ok-keys.keys c.in_ok-keys.ensures.are c.keys.ensures.numbered
    c.about_all.new.gc c.args.out.now.items c.about_all.new.out.items _ (omega (arith, rose, c.begun.ensures, c.begun-before.ensures)) c.in_ok-about_all.ensures.about
