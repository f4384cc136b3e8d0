use Rattle.std.proofs.Common.{sym}
use Rattle.k2v_api.specs.Turning.{StepStops, EventStops}
use Rattle.k2v_api.proofs.Causes.{given_up, handed_on}
use Rattle.k2v_api.proofs.Stepping.{takes_drain, stops_drain, stops_alone, all_takes}
use Rattle.k2v_api.proofs.steps.takes.Goals as goal

pub returns-in_err-lines-in-Some-clause-causes : goal.returns-in_err-lines-in-Some-clause-causes
returns-in_err-lines-in-Some-clause-causes c =
    given_up c.from_residual.result c.in_err-lines-in-Some.field-0.0 (EventStops c.args.items.now c.args.event.now) c.from_residual.ensures.1
    (stops_drain c.args.items.now c.args.event.now c.in-Some.count (sym c.in-Some.ensures) c.in_err-lines-in-Some.field-0.0 c.in_err-lines-in-Some.ensures.causes)

pub returns-in_ok-lines-in-Some-clause-takes : goal.returns-in_ok-lines-in-Some-clause-takes
returns-in_ok-lines-in-Some-clause-takes c =
    takes_drain c.args.items.now c.args.event.now c.in-Some.count (sym c.in-Some.ensures) c.drained.new.items c.in_ok-lines-in-Some.lines c.in_ok-lines-in-Some.ensures.delivers

pub returns-in-None-clause-causes : goal.returns-in-None-clause-causes
returns-in-None-clause-causes c =
    handed_on c.one_step.result (StepStops c.args.items.now c.args.event.now) (EventStops c.args.items.now c.args.event.now) (stops_alone c.args.items.now c.args.event.now (sym c.in-None.ensures)) c.one_step.ensures.causes

pub returns-in-None-clause-takes : goal.returns-in-None-clause-takes
returns-in-None-clause-takes c =
    all_takes c.args.items.now c.args.event.now (sym c.in-None.ensures) c.one_step.new.items c.one_step.result c.one_step.ensures.takes
