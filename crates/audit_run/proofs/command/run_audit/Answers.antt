use Rattle.lab_main.proofs.Edges.{read_edges, unread_edges, unread_so}
use Rattle.lab_main.specs.Edges.{IsUnlinked}
use Rattle.audit_run.specs.Answer.{IsAnswer}
use Rattle.audit_accounts.specs.Saying.{transcript_says}
use Rattle.audit_accounts.specs.Runs.{history_told}
use Rattle.audit_run.proofs.Audited.{own_readable, audits}
use Rattle.audit_run.proofs.command.run_audit.Goals as goal

pub returns-in-Ok : goal.returns-in-Ok
returns-in-Ok g c =
    audits g.I.Source g.O.Sink c.audit.result c.args.input.now c.read_input.new.input c.args.output.now c.audit.new.output c.one_finding.ensures c.audited_transcripts_keep_promises.ensures
    (record { readable = own_readable transcript_says history_told c.printed_turns_give_their_history.ensures.readable; fresh = c.printed_turns_give_their_history.ensures.fresh })
    (read_edges g.I.Source g.O.Sink IsAnswer c.args.input.now c.read_input.new.input c.args.output.now c.audit.new.output c.in-Ok.bytes c.in-Ok.bytes.items c.audit.result c.in-Ok.ensures.reads c.in-Ok.ensures.bytes c.audit.ensures.other c.audit.ensures.writes)
    c.audit.ensures.statuses

pub returns-in-Err : goal.returns-in-Err
returns-in-Err g c =
    audits g.I.Source g.O.Sink c.unread.result c.args.input.now c.read_input.new.input c.args.output.now c.unread.new.output c.one_finding.ensures c.audited_transcripts_keep_promises.ensures
    (record { readable = own_readable transcript_says history_told c.printed_turns_give_their_history.ensures.readable; fresh = c.printed_turns_give_their_history.ensures.fresh })
    (unread_edges g.I.Source g.O.Sink IsAnswer c.args.input.now c.read_input.new.input c.args.output.now c.unread.new.output c.in-Err.stop c.unread.result c.in-Err.ensures.reads c.unread.ensures.read c.unread.ensures.memory c.unread.ensures.long c.unread.ensures.told)
    (unread_so IsUnlinked tt tt tt tt c.in-Err.stop c.unread.result (g.O.Sink.written c.args.output.now) (g.O.Sink.written c.unread.new.output) (g.O.Sink.faults c.args.output.now) (g.O.Sink.faults c.unread.new.output) _ c.unread.ensures.read c.unread.ensures.memory c.unread.ensures.long)
