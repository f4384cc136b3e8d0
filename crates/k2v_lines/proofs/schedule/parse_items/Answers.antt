use Rattle.std.proofs.Common.{◌≡◌, ap, Err, Result}
use Rattle.std.proofs.lemmas.Result.{err_from_is_err_and}
use Rattle.schedule_text.specs.declared.fault.ScheduleFault.{ScheduleFault}
use Rattle.k2v_lines.proofs.Reading.{reading_more, reading_all, bad_at, over_at, empty_is}
use Rattle.k2v_lines.proofs.schedule.parse_items.Goals as goal

same_fault : {T : Type 0} (r : Result T ScheduleFault) (x y z : ScheduleFault) → r ≡ Err x → x ≡ y → r ≡ Err z → y ≡ z
same_fault r x y z h k e = cc

pub returns-in_err-read_line-clause-bad_line : goal.returns-in_err-read_line-clause-bad_line
returns-in_err-read_line-clause-bad_line c =
    let p = err_from_is_err_and c.from_residual.result c.from_residual.ensures.1 in
    λ n e.
    bad_at c.args.text.now c.loop-rest.rest.now c.first_line.result.0.now c.first_line.result.1.now c.loop-rest.number c.loop-rest.events c.loop-rest.invariant c.first_line.ensures.lines n (c.in_err-read_line.ensures.bad n (ap Err (same_fault c.from_residual.result p.0 c.in_err-read_line.field-0.0 _ p.1 p.2 e)))

pub returns-in_err-read_line-clause-too_many : goal.returns-in_err-read_line-clause-too_many
returns-in_err-read_line-clause-too_many c =
    let p = err_from_is_err_and c.from_residual.result c.from_residual.ensures.1 in
    λ e.
    over_at c.args.text.now c.loop-rest.rest.now c.first_line.result.0.now c.first_line.result.1.now c.loop-rest.number c.loop-rest.events c.loop-rest.invariant c.first_line.ensures.lines (c.in_err-read_line.ensures.over (ap Err (same_fault c.from_residual.result p.0 c.in_err-read_line.field-0.0 _ p.1 p.2 e)))

pub loop-rest-preserved : goal.loop-rest-preserved
loop-rest-preserved c =
    reading_more c.args.text.now c.loop-rest.rest.now c.first_line.result.0.now c.first_line.result.1.now c.loop-rest.number c.loop-rest.events c.loop-rest.invariant c.first_line.ensures.lines c.read_line.new.events c.first_line.ensures.shorter c.in_ok-read_line.ensures.ok

pub returns-clause-events : goal.returns-clause-events
returns-clause-events c =
    reading_all c.args.text.now c.loop-rest.rest.now c.loop-rest.number c.loop-rest.events c.loop-rest.invariant (empty_is c.loop-rest.rest.now c.loop-rest-test.ensures)
