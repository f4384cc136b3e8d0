use Rattle.transcript_text.proofs.Lines.{reads_line}
use Rattle.transcript_text.proofs.line.said_in.Goals as goal

pub returns : goal.returns
returns c = reads_line c.args.line.now c.deref.result.now c.spelled.result (rw c.deref.ensures.value c.in_ok-words.ensures) c.spelled.ensures
