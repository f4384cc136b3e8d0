use Rattle.std.proofs.Common.{ap, Err, sym, subst}
use Rattle.k2v_text.specs.Schedule.{IsSchedule}
use Rattle.k2v_api.proofs.Ends.{schedule_halts, write_halts, write_done}
use Rattle.k2v_api.proofs.command.replay.Goals as goal

pub returns-in_err-events-clause-halts : goal.returns-in_err-events-clause-halts
returns-in_err-events-clause-halts g c =
    schedule_halts c.args.text.now (g.O.Sink.written c.args.output.now) c.in_err-events.field-0.0 c.in_err-events.ensures.causes (λ n e. c.in_err-events.ensures.bad_line n (ap Err e)) (λ e. c.in_err-events.ensures.many_events (ap Err e))
    c.from_residual.result c.from_residual.ensures.1

pub returns-clause-halts : goal.returns-clause-halts
returns-clause-halts g c =
    write_halts c.item_schedules_are_within_limits.ensures c.first_item_turns_go_further.ensures c.no_item_replay_lacks_room.ensures c.args.text.now c.as_slice.result.now (subst (IsSchedule c.args.text.now) (sym c.as_slice.ensures) c.in_ok-events.ensures.schedule) (g.O.Sink.written c.args.output.now) (g.O.Sink.written c.replay.new.output)
    c.replay.result c.replay.ensures.halts

pub returns-clause-done : goal.returns-clause-done
returns-clause-done g c =
    write_done c.args.text.now c.as_slice.result.now (subst (IsSchedule c.args.text.now) (sym c.as_slice.ensures) c.in_ok-events.ensures.schedule) (g.O.Sink.written c.args.output.now) (g.O.Sink.written c.replay.new.output)
    c.replay.result c.replay.ensures.whole
