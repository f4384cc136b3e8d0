use Rattle.std.proofs.Common.{subst}
use Rattle.table_model.specs.Rows.{find_row}
use Rattle.node_parts.specs.Collects.{AboutAt, AboutKeys, CannotAboutAt, CannotAboutKeys}
use Rattle.node_parts.proofs.Faults.{passed_on}
use Rattle.node_parts.proofs.GoingOn.{Going, going_first, going_last, going_next, going_stops}
use Rattle.node_parts.proofs.collector.Collector.about_all.Goals as goal

pub loop-key-init : goal.loop-key-init
loop-key-init g c = going_first g.S.Row.Crdt.join g.S.Schema.words c.args.self c.args.contents.now.table c.into_iter-key-iterator.result c.args.gc.now c.args.out.now.items

pub loop-key-preserved : goal.loop-key-preserved
loop-key-preserved g c =
    let join = g.S.Row.Crdt.join in
    let words = g.S.Schema.words in
    let self = c.args.self in
    let rows = c.args.contents.now.table in
    let whole = c.into_iter-key-iterator.result in
    let going = subst (λ ks. Going join words self rows whole c.args.gc.now c.args.out.now.items ks c.loop-key.gc c.loop-key.out.items) c.in-Some.ensures.steps c.loop-key.invariant in
    going_next join words self rows whole c.args.gc.now c.args.out.now.items c.in-Some.key.now c.next.new.self c.loop-key.gc c.loop-key.out.items going c.about_key.new.gc c.about_key.new.out.items
    (subst (λ key. AboutAt join words self (find_row words 1 key rows) c.loop-key.gc c.about_key.new.gc c.loop-key.out.items c.about_key.new.out.items) c.as_slice.ensures.value c.in_ok-about_key.ensures.about)

pub returns-in_err-about_key-clause-causes : goal.returns-in_err-about_key-clause-causes
returns-in_err-about_key-clause-causes g c =
    let join = g.S.Row.Crdt.join in
    let words = g.S.Schema.words in
    let self = c.args.self in
    let rows = c.args.contents.now.table in
    let whole = c.into_iter-key-iterator.result in
    let going = subst (λ ks. Going join words self rows whole c.args.gc.now c.args.out.now.items ks c.loop-key.gc c.loop-key.out.items) c.in-Some.ensures.steps c.loop-key.invariant in
    passed_on c.from_residual.result c.in_err-about_key.field-0.0 c.from_residual.ensures.1 c.in_err-about_key.ensures.causes (λ cannot.
    subst (λ ks. CannotAboutKeys join words self rows ks c.args.gc.now) c.into_iter-key-iterator.ensures.into_iter_gives.0
    (going_stops join words self rows whole c.args.gc.now c.args.out.now.items c.in-Some.key.now c.next.new.self c.loop-key.gc c.loop-key.out.items going
    (subst (λ key. CannotAboutAt join words self (find_row words 1 key rows) c.loop-key.gc) c.as_slice.ensures.value cannot)))

pub returns-clause-about : goal.returns-clause-about
returns-clause-about g c =
    let join = g.S.Row.Crdt.join in
    let words = g.S.Schema.words in
    let self = c.args.self in
    let rows = c.args.contents.now.table in
    let whole = c.into_iter-key-iterator.result in
    subst (λ ks. AboutKeys join words self rows ks c.args.gc.now c.loop-key.gc c.args.out.now.items c.loop-key.out.items) c.into_iter-key-iterator.ensures.into_iter_gives.0
    (going_last join words self rows whole c.args.gc.now c.args.out.now.items c.loop-key.gc c.loop-key.out.items
    (subst (λ ks. Going join words self rows whole c.args.gc.now c.args.out.now.items ks c.loop-key.gc c.loop-key.out.items) c.in-None.ensures.steps.0 c.loop-key.invariant))
