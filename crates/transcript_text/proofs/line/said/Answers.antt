use Rattle.std.proofs.Common.{None}
use Rattle.transcript_text.proofs.Lines.{found_is_read}
use Rattle.transcript_text.proofs.line.said.Goals as goal

pub returns-in-Ok-clause-read : goal.returns-in-Ok-clause-read
returns-in-Ok-clause-read c = found_is_read c.args.line.now _ c.in-Ok.ensures

pub returns-in-Err-Outside-clause-read : goal.returns-in-Err-Outside-clause-read
returns-in-Err-Outside-clause-read c = found_is_read c.args.line.now None (rw c.in-Err-Outside.field-0-is at c.in-Err-Outside.ensures)
