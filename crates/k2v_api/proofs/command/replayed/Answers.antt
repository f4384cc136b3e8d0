use Rattle.std.proofs.Common.{ap, Err}
use Rattle.lab_main.proofs.Edges.{same_on_ok}
use Rattle.k2v_api.specs.declared.stop.Stop.TheVariants.{Write}
use Rattle.k2v_api.proofs.Ends.{done_writes, halted_writes, told_both, stop_statuses, stop_no_read}
use Rattle.k2v_api.proofs.command.replayed.Goals as goal

pub returns-in-Ok-clause-writes : goal.returns-in-Ok-clause-writes
returns-in-Ok-clause-writes g c = done_writes g.O.Sink c.args.text.now c.args.output.now c.replay.new.output c.replay.new.output c.in-Ok.ensures.done (same_on_ok tt Write _ c.in-Ok.ensures.told)

pub returns-in-Err-clause-writes : goal.returns-in-Err-clause-writes
returns-in-Err-clause-writes g c =
    halted_writes g.O.Sink c.args.text.now c.args.output.now c.replay.new.output c.stopped.new.output c.in-Err.stop c.stopped.result c.in-Err.ensures.halts c.stopped.ensures.says (λ e. c.in-Err.ensures.fault (ap Err e)) c.in-Err.ensures.counted c.stopped.ensures.counted
    (told_both c.in-Err.stop c.stopped.result (g.O.Sink.faults c.args.output.now) (g.O.Sink.faults c.replay.new.output) (g.O.Sink.faults c.stopped.new.output) c.in-Err.ensures.told c.stopped.ensures.failed_write c.stopped.ensures.told)

pub returns-in-Err-clause-statuses : goal.returns-in-Err-clause-statuses
returns-in-Err-clause-statuses g c = stop_statuses c.in-Err.stop c.stopped.result (g.O.Sink.written c.replay.new.output) (g.O.Sink.written c.stopped.new.output) (g.O.Sink.faults c.replay.new.output) (g.O.Sink.faults c.stopped.new.output) c.stopped.ensures.says

pub returns-in-Err-clause-other : goal.returns-in-Err-clause-other
returns-in-Err-clause-other g c = stop_no_read c.in-Err.stop c.stopped.result (g.O.Sink.written c.replay.new.output) (g.O.Sink.written c.stopped.new.output) (g.O.Sink.faults c.replay.new.output) (g.O.Sink.faults c.stopped.new.output) c.stopped.ensures.says
