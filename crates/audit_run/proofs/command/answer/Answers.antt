use Rattle.std.proofs.Common.{ap, Err}
use Rattle.audit_run.proofs.Replies.{refused_answers, judged_answers, some_judged, none_judged}
use Rattle.audit_run.proofs.command.answer.Goals as goal

pub returns-in-Err-clause-stated : goal.returns-in-Err-clause-stated
returns-in-Err-clause-stated c = refused_answers c.args.input.now c.cut-parts.result.schedule.now _ c.cut-parts.ensures.parts c.in-Err.stop c.no_schedule.result (λ n e. c.in-Err.ensures.bad_line n (ap Err e)) (λ e. c.in-Err.ensures.many_events (ap Err e)) c.no_schedule.ensures.refused

pub returns-in-Some-clause-stated : goal.returns-in-Some-clause-stated
returns-in-Some-clause-stated c =
    judged_answers c.args.input.now c.cut-parts.result.schedule.now _ c.cut-parts.ensures.parts c.in-Ok.events c.found.result c.in-Ok.ensures.schedule
    (some_judged (λ t. t.now) c.cut-parts.result.transcript c.in-Some.text c.in-Ok.events c.found.result c.in-Some.is (rw c.as_slice.ensures at c.found.ensures.found))

pub returns-clause-stated : goal.returns-clause-stated
returns-clause-stated c =
    judged_answers c.args.input.now c.cut-parts.result.schedule.now _ c.cut-parts.ensures.parts c.in-Ok.events c.plain.result c.in-Ok.ensures.schedule
    (none_judged (λ t. t.now) c.cut-parts.result.transcript c.in-Ok.events c.plain.result c.in-None.is c.plain.ensures.status c.plain.ensures.text)
