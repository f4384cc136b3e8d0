use Rattle.lab_main.proofs.Edges.{read_edges, unread_edges, unread_so}
use Rattle.lab_main.specs.Edges.{IsUnlinked}
use Rattle.k2v_api.specs.Answer.{IsAnswer}
use Rattle.k2v_api.proofs.Answering.{replays}
use Rattle.k2v_api.proofs.command.k2v.Goals as goal

pub returns-in-Ok : goal.returns-in-Ok
returns-in-Ok g c =
    replays g.I.Source g.O.Sink c.replayed.result c.args.input.now c.read_input.new.input c.args.output.now c.replayed.new.output c.moments_keep_items.ensures
    (read_edges g.I.Source g.O.Sink IsAnswer c.args.input.now c.read_input.new.input c.args.output.now c.replayed.new.output c.in-Ok.text c.in-Ok.text.items c.replayed.result c.in-Ok.ensures.reads c.in-Ok.ensures.bytes c.replayed.ensures.other (rw c.deref.ensures.value at c.replayed.ensures.writes))
    c.replayed.ensures.statuses

pub returns-in-Err : goal.returns-in-Err
returns-in-Err g c =
    replays g.I.Source g.O.Sink c.unread.result c.args.input.now c.read_input.new.input c.args.output.now c.unread.new.output c.moments_keep_items.ensures
    (unread_edges g.I.Source g.O.Sink IsAnswer c.args.input.now c.read_input.new.input c.args.output.now c.unread.new.output c.in-Err.stop c.unread.result c.in-Err.ensures.reads c.unread.ensures.read c.unread.ensures.memory c.unread.ensures.long c.unread.ensures.told)
    (unread_so IsUnlinked tt tt tt tt c.in-Err.stop c.unread.result (g.O.Sink.written c.args.output.now) (g.O.Sink.written c.unread.new.output) (g.O.Sink.faults c.args.output.now) (g.O.Sink.faults c.unread.new.output) _ c.unread.ensures.read c.unread.ensures.memory c.unread.ensures.long)
