use Rattle.std.proofs.Common.{◌∙◌}
use Rattle.replay_run.specs.declared.account.Account.TheVariants.{Summary}
use Rattle.workload.specs.Schedule.{schedule}
use Rattle.workload_run.proofs.Telling.{none_halts, never_number}
use Rattle.workload_run.proofs.command.replayed.Goals as goal

pub returns-in_err-events-clause-halts : goal.returns-in_err-events-clause-halts
returns-in_err-events-clause-halts g c =
    none_halts (Summary c.args.workload.count c.args.workload.seed) (schedule c.args.workload.count c.args.workload.seed) (g.O.Sink.written c.args.output.now) c.from_residual.result c.in_err-events.field-0.0 c.from_residual.ensures.1 c.in_err-events.ensures.want

pub returns-clause-room : goal.returns-clause-room
returns-clause-room g c =
    never_number c.no_replay_lacks_room.ensures c.args.workload.count c.args.workload.seed c.requires.few (Summary c.args.workload.count c.args.workload.seed) (g.O.Sink.written c.args.output.now) (g.O.Sink.written c.replay.new.output) c.replay.result c.as_slice.result.now (c.as_slice.ensures ∙ c.in_ok-events.ensures.events) c.replay.ensures.halts
