use Rattle.std.proofs.Common.{ap, Err}
use Rattle.k2v_api.proofs.Meant.{schedule_is_meant}
use Rattle.k2v_api.proofs.Stops.{bad_line_back, many_events_back}
use Rattle.k2v_api.proofs.command.schedule_of.Goals as goal

pub returns-in_err-events-clause-bad_line : goal.returns-in_err-events-clause-bad_line
returns-in_err-events-clause-bad_line c = λ n e. c.in_err-events.ensures.bad_line n (ap Err (bad_line_back c.from_residual.result c.in_err-events.field-0.0 n c.from_residual.ensures.1 e))

pub returns-in_err-events-clause-many_events : goal.returns-in_err-events-clause-many_events
returns-in_err-events-clause-many_events c = λ e. c.in_err-events.ensures.too_many (ap Err (many_events_back c.from_residual.result c.in_err-events.field-0.0 c.from_residual.ensures.1 e))

pub returns-clause-meant : goal.returns-clause-meant
returns-clause-meant c = schedule_is_meant c.every_item_text_reads.ensures.allowed c.args.text.now c.in_ok-events.events c.in_ok-events.ensures.events
