use Rattle.k2v_api.specs.Turning.{EventStops}
use Rattle.k2v_api.proofs.Causes.{given_up, wanting}
use Rattle.k2v_api.proofs.Running.{turns_named}
use Rattle.k2v_api.proofs.transcript.event_text.Goals as goal

pub returns-in_err-told-clause-causes : goal.returns-in_err-told-clause-causes
returns-in_err-told-clause-causes c = given_up c.from_residual.result c.in_err-told.field-0.0 (EventStops c.args.items.now c.args.next.now.event) c.from_residual.ensures.1 c.in_err-told.ensures.causes

pub returns-in_err-text-clause-causes : goal.returns-in_err-text-clause-causes
returns-in_err-text-clause-causes c =
    wanting c.from_residual-in_err-text.result c.in_err-text.field-0.0 (EventStops c.args.items.now c.args.next.now.event) c.from_residual-in_err-text.ensures.1 tt c.in_err-text.ensures.want

pub returns-clause-turns : goal.returns-clause-turns
returns-clause-turns c =
    turns_named c.args.items.now c.takes.new.items c.in_ok-told.told c.args.next.now c.in_ok-text.text c.item_name.result.now c.in_ok-told.ensures.takes c.item_name.ensures c.in_ok-text.ensures.text
