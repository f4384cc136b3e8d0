use Rattle.std.specs.Prelude.{is_some}
use Rattle.std.proofs.Common.{ap, sym}
use Rattle.std.proofs.lemmas.Result.{on_ok_weaker, on_err_weaker}
use Rattle.table_store.specs.Index.{Forgets, Stays}
use Rattle.table_store.proofs.Forgetting.{turns_at, turns_none}
use Rattle.table_store.proofs.index.forget.Goals as goal

pub returns-in-Some-clause-forgets : goal.returns-in-Some-clause-forgets
returns-in-Some-clause-forgets c =
    let later = c.get_mut.follows.lender c.forget.new.self in
    let there = sym c.in-Some.ensures.value in
    on_ok_weaker c.forget.result
    (λ after. turns_at {After = Forgets c.args.key.now} c.args.index.now later c.args.p c.in-Some.part.now c.forget.new.self there ((c.get_mut.follows.holds c.forget.new.self).3 (ap is_some there)).0 after)
    c.forget.ensures.forgets

pub returns-in-Some-clause-stays : goal.returns-in-Some-clause-stays
returns-in-Some-clause-stays c =
    let later = c.get_mut.follows.lender c.forget.new.self in
    let there = sym c.in-Some.ensures.value in
    on_err_weaker c.forget.result
    (λ after. turns_at {After = Stays} c.args.index.now later c.args.p c.in-Some.part.now c.forget.new.self there ((c.get_mut.follows.holds c.forget.new.self).3 (ap is_some there)).0 after)
    c.forget.ensures.stays

pub returns-in-None-clause-forgets : goal.returns-in-None-clause-forgets
returns-in-None-clause-forgets c = turns_none {After = Forgets c.args.key.now} c.args.index.now c.get_mut.follows.lender-at-none c.args.p (sym c.in-None.ensures.value) c.get_mut.follows.holds-at-none
