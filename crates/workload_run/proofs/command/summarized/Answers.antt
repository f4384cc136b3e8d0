use Rattle.std.proofs.Common.{ap, Err}
use Rattle.lab_main.proofs.Edges.{same_on_ok}
use Rattle.replay_run.specs.declared.stop.ReplayStop.TheVariants.{Write}
use Rattle.workload_run.proofs.Telling.{summary_writes, halted_writes, told_both}
use Rattle.workload_run.proofs.command.summarized.Goals as goal

pub returns-in-Ok-clause-writes : goal.returns-in-Ok-clause-writes
returns-in-Ok-clause-writes g c = summary_writes g.O.Sink c.args.workload.count c.args.workload.seed c.args.output.now c.args.output.now c.replayed.new.output c.in-Ok.ensures.whole (same_on_ok tt Write _ c.in-Ok.ensures.told)

pub returns-in-Err-clause-writes : goal.returns-in-Err-clause-writes
returns-in-Err-clause-writes g c =
    halted_writes g.O.Sink c.args.workload.count c.args.workload.seed c.args.output.now c.replayed.new.output c.stopped.new.output c.stopped.result c.in-Err.ensures.counted
    (told_both c.in-Err.stop c.stopped.result (g.O.Sink.faults c.args.output.now) (g.O.Sink.faults c.replayed.new.output) (g.O.Sink.faults c.stopped.new.output) _ c.in-Err.ensures.told c.stopped.ensures.write c.stopped.ensures.told)
    c.in-Err.stop c.in-Err.ensures.halts (λ e. c.in-Err.ensures.room (ap Err e)) (λ e. c.in-Err.ensures.fault (ap Err e)) c.stopped.ensures.sent c.stopped.ensures.write c.stopped.ensures.memory
