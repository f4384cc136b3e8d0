use Rattle.std.proofs.Common.{ap, Err, sym, subst}
use Rattle.text_model.specs.Reading.{IsSchedule}
use Rattle.replay_command.proofs.Ends.{schedule_halts, write_halts, write_done}
use Rattle.replay_command.proofs.Stops.{write_back}
use Rattle.replay_command.proofs.command.replay.Goals as goal

pub returns-in_err-events-clause-halts : goal.returns-in_err-events-clause-halts
returns-in_err-events-clause-halts g c =
    schedule_halts c.args.account c.args.text.now (g.O.Sink.written c.args.output.now) c.in_err-events.field-0.0 c.in_err-events.ensures.causes (λ n e. c.in_err-events.ensures.bad_line n (ap Err e)) (λ e. c.in_err-events.ensures.many_events (ap Err e))
    c.from_residual.result c.from_residual.ensures.1

pub returns-in_err-replay-clause-halts : goal.returns-in_err-replay-clause-halts
returns-in_err-replay-clause-halts g c =
    write_halts c.schedules_are_within_limits.ensures c.args.account c.args.text.now c.as_slice.result.now (subst (IsSchedule c.args.text.now) (sym c.as_slice.ensures) c.in_ok-events.ensures.schedule) (g.O.Sink.written c.args.output.now) (g.O.Sink.written c.replay.new.output)
    c.first_turns_go_further.ensures c.no_replay_lacks_room.ensures c.from_residual-in_err-replay.result c.in_err-replay.field-0.0 c.from_residual-in_err-replay.ensures.1 c.in_err-replay.ensures.halts

pub returns-in_err-replay-clause-fault : goal.returns-in_err-replay-clause-fault
returns-in_err-replay-clause-fault g c = λ e. c.in_err-replay.ensures.fault (ap Err (write_back c.from_residual-in_err-replay.result c.in_err-replay.field-0.0 c.from_residual-in_err-replay.ensures.1 e))

pub returns-clause-done : goal.returns-clause-done
returns-clause-done g c =
    write_done c.schedules_are_within_limits.ensures c.args.account c.args.text.now c.as_slice.result.now (subst (IsSchedule c.args.text.now) (sym c.as_slice.ensures) c.in_ok-events.ensures.schedule) (g.O.Sink.written c.args.output.now) (g.O.Sink.written c.replay.new.output) c.in_ok-replay.ensures.whole
