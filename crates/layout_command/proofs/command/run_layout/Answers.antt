use Rattle.lab_main.proofs.Edges.{read_edges, unread_edges, unread_so}
use Rattle.lab_main.specs.Edges.{IsUnlinked}
use Rattle.layout_command.specs.Command.{IsReply}
use Rattle.layout_command.proofs.Printed.{lays_out}
use Rattle.layout_command.proofs.command.run_layout.Goals as goal

pub returns-in-Ok : goal.returns-in-Ok
returns-in-Ok g c =
    lays_out g.I.Source g.O.Sink c.args.goal c.lay_out.result c.args.input.now c.read_input.new.input c.args.output.now c.lay_out.new.output c.one_status.ensures c.one_moves_status.ensures
    (read_edges g.I.Source g.O.Sink (IsReply c.args.goal) c.args.input.now c.read_input.new.input c.args.output.now c.lay_out.new.output c.in-Ok.bytes c.in-Ok.bytes.items c.lay_out.result c.in-Ok.ensures.reads c.in-Ok.ensures.bytes c.lay_out.ensures.other (rw c.deref.ensures.value at c.lay_out.ensures.writes))
    c.lay_out.ensures.statuses

pub returns-in-Err : goal.returns-in-Err
returns-in-Err g c =
    lays_out g.I.Source g.O.Sink c.args.goal c.unread.result c.args.input.now c.read_input.new.input c.args.output.now c.unread.new.output c.one_status.ensures c.one_moves_status.ensures
    (unread_edges g.I.Source g.O.Sink (IsReply c.args.goal) c.args.input.now c.read_input.new.input c.args.output.now c.unread.new.output c.in-Err.stop c.unread.result c.in-Err.ensures.reads c.unread.ensures.read c.unread.ensures.memory c.unread.ensures.long c.unread.ensures.told)
    (unread_so IsUnlinked tt tt tt tt c.in-Err.stop c.unread.result (g.O.Sink.written c.args.output.now) (g.O.Sink.written c.unread.new.output) (g.O.Sink.faults c.args.output.now) (g.O.Sink.faults c.unread.new.output) _ c.unread.ensures.read c.unread.ensures.memory c.unread.ensures.long)
