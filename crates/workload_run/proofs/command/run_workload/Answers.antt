use Rattle.workload_run.proofs.Telling.{summarizes}
use Rattle.workload_run.proofs.command.run_workload.Goals as goal

pub returns : goal.returns
returns g c = summarizes g.O.Sink c.promises_are_kept.ensures c.args.workload.count c.args.workload.seed c.args.output.now c.summarized.new.output c.summarized.result c.summarized.ensures.writes c.summarized.ensures.statuses
