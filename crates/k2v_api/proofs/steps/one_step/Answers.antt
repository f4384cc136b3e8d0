use Rattle.std.proofs.Common.{arith}
use Rattle.k2v_world.specs.Stands.{OverflowsEvent}
use Rattle.k2v_api.specs.Turning.{StepStops}
use Rattle.k2v_api.proofs.Causes.{stopped}
use Rattle.k2v_api.proofs.Stepping.{step_taken, step_sends, step_lacks}
use Rattle.k2v_api.proofs.steps.one_step.Goals as goal

pub returns-in_err-told-clause-causes : goal.returns-in_err-told-clause-causes
returns-in_err-told-clause-causes c =
    stopped c.from_residual.result c.in_err-told.field-0.0 (StepStops c.args.items.now c.args.event.now) (OverflowsEvent c.args.items.now c.args.event.now) c.from_residual.ensures.1 tt
    (step_lacks c.args.items.now c.args.event.now) c.in_err-told.ensures.causes

pub returns-then-sent-gt-SENT_LIMIT-clause-causes : goal.returns-then-sent-gt-SENT_LIMIT-clause-causes
returns-then-sent-gt-SENT_LIMIT-clause-causes c =
    step_sends c.args.items.now c.step.new.self c.in_ok-told.told c.args.event.now c.in_ok-told.ensures.plays c.sent_bytes-sent.result c.sent_bytes-sent.ensures (omega arith)

pub returns-clause-takes : goal.returns-clause-takes
returns-clause-takes c =
    step_taken c.args.items.now c.step.new.self c.in_ok-told.told c.args.event.now c.in_ok-told.ensures.plays c.sent_bytes-sent.result c.sent_bytes-sent.ensures (omega arith)
