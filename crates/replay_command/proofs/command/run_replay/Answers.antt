use Rattle.lab_main.proofs.Edges.{read_edges, unread_edges, unread_so}
use Rattle.lab_main.specs.Edges.{IsUnlinked}
use Rattle.replay_command.specs.Answer.{IsAnswer}
use Rattle.replay_command.proofs.Answering.{replays}
use Rattle.replay_command.proofs.command.run_replay.Goals as goal

pub returns-in-Ok : goal.returns-in-Ok
returns-in-Ok g c =
    replays g.I.Source g.O.Sink c.args.account c.replayed.result c.args.input.now c.read_input.new.input c.args.output.now c.replayed.new.output c.promises_are_kept.ensures c.schedules_are_within_limits.ensures c.timely_turns_collect_safely.ensures.prompt
    (read_edges g.I.Source g.O.Sink (IsAnswer c.args.account) c.args.input.now c.read_input.new.input c.args.output.now c.replayed.new.output c.in-Ok.text c.in-Ok.text.items c.replayed.result c.in-Ok.ensures.reads c.in-Ok.ensures.bytes c.replayed.ensures.other (rw c.deref.ensures.value at c.replayed.ensures.writes))
    c.replayed.ensures.statuses

pub returns-in-Err : goal.returns-in-Err
returns-in-Err g c =
    replays g.I.Source g.O.Sink c.args.account c.unread.result c.args.input.now c.read_input.new.input c.args.output.now c.unread.new.output c.promises_are_kept.ensures c.schedules_are_within_limits.ensures c.timely_turns_collect_safely.ensures.prompt
    (unread_edges g.I.Source g.O.Sink (IsAnswer c.args.account) c.args.input.now c.read_input.new.input c.args.output.now c.unread.new.output c.in-Err.stop c.unread.result c.in-Err.ensures.reads c.unread.ensures.read c.unread.ensures.memory c.unread.ensures.long c.unread.ensures.told)
    (unread_so IsUnlinked tt tt tt tt c.in-Err.stop c.unread.result (g.O.Sink.written c.args.output.now) (g.O.Sink.written c.unread.new.output) (g.O.Sink.faults c.args.output.now) (g.O.Sink.faults c.unread.new.output) _ c.unread.ensures.read c.unread.ensures.memory c.unread.ensures.long)
