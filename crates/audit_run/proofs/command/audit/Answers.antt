use Rattle.std.proofs.Common.{◌≡◌, refl}
use Rattle.lab_outside.specs.declared.exit.Status.TheVariants.{WriteFault, Memory}
use Rattle.lab_main.proofs.Edges.{said_writes, silent_writes}
use Rattle.audit_run.specs.Answer.{IsAnswer}
use Rattle.audit_run.proofs.Audited.{no_write_fault, said_statuses, said_no_read}
use Rattle.audit_run.proofs.command.audit.Goals as goal

pub returns-in-Ok-clause-writes : goal.returns-in-Ok-clause-writes
returns-in-Ok-clause-writes g c =
    said_writes g.O.Sink (IsAnswer c.args.input.items) c.in-Ok.reply.status c.in-Ok.reply.text c.ends.result c.args.output.now c.ends.new.output c.in-Ok.ensures.stated
    (no_write_fault c.args.input.items c.in-Ok.reply.status c.in-Ok.reply.text c.in-Ok.ensures.stated) (rw c.as_slice.ensures at c.ends.ensures.says) c.ends.ensures.steady

pub returns-in-Ok-clause-statuses : goal.returns-in-Ok-clause-statuses
returns-in-Ok-clause-statuses g c =
    said_statuses c.args.input.items c.in-Ok.reply.status c.in-Ok.reply.text c.in-Ok.ensures.stated c.as_slice.result.now c.ends.result (g.O.Sink.written c.args.output.now) (g.O.Sink.written c.ends.new.output) (g.O.Sink.faults c.args.output.now) (g.O.Sink.faults c.ends.new.output)
    c.ends.ensures.says

pub returns-in-Ok-clause-other : goal.returns-in-Ok-clause-other
returns-in-Ok-clause-other g c =
    said_no_read c.args.input.items c.in-Ok.reply.status c.in-Ok.reply.text c.in-Ok.ensures.stated c.as_slice.result.now c.ends.result (g.O.Sink.written c.args.output.now) (g.O.Sink.written c.ends.new.output) (g.O.Sink.faults c.args.output.now) (g.O.Sink.faults c.ends.new.output)
    c.ends.ensures.says

pub returns-in-Err-clause-writes : goal.returns-in-Err-clause-writes
returns-in-Err-clause-writes g c = silent_writes g.O.Sink (IsAnswer c.args.input.items) Memory c.args.output.now c.args.output.now (λ s. s) (λ e. let no : Memory ≡ WriteFault = e in cc) refl
